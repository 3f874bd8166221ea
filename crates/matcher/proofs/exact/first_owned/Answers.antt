use Rattle.std.proofs.Common.{rules, subst}
use Rattle.std.specs.Iterator.Runs.{ItemsCountUp}
use Rattle.std.specs.declared.ops.Range.{Range}
use Rattle.std.proofs.iter.runs.Sources.{range_runs}
use Rattle.matcher.proofs.Finding.{first_given}
use Rattle.matcher.proofs.exact.first_owned.Goals as goal

pub returns : goal.returns
returns g c =
    let h = c.find_map.ensures.runs in
    first_given _ _ _ c.args.count h.0 (subst (λ (s : Range _). ItemsCountUp h.0 s.start s.end) h.1 (range_runs h.0 h.0.seen)) (λ a r q k. search rules) (λ x o k. search rules) c.find_map.result h.2
