-- What a host of tables means.
use Rattle.std.specs.Prelude.{◌≡◌, ℕ, Bool, ◌&&◌, List, [], length}
use Rattle.store.specs.Tables.{Tables}
use Rattle.host.specs.declared.table.TableHost.{TableHost}
use Rattle.host.specs.Meaning.{HostMeaning}
use Rattle.host.specs.Reading.{live_in}

abbrev pub tabled : {P : Type 0} → (P → ℕ → ℕ → ℕ → Bool) → Tables → TableHost P → HostMeaning
tabled joins S h = record {
  live = live_in S h.live.now;
  loose = joins h.loose (length S.nodes);
  strict = λ a b. joins h.loose (length S.nodes) a b && joins h.strict (length S.nodes) a b;
  listed = h.made;
  room = 4096;
}

-- a host over these tables that has made nothing yet
pub record Fresh {P : Type 0} (h : TableHost P) (live : List ℕ) (loose strict : P) : Type 0 where
  pub lives : h.live.now ≡ live
  pub loosely : h.loose ≡ loose
  pub strictly : h.strict ≡ strict
  pub none_made : h.made ≡ []
