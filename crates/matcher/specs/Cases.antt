-- Eight worked cases over a small store.
use Rattle.std.specs.Prelude.{◌≡◌, ℕ, cond, ◌&&◌, ◌||◌, List, [], ◌∷◌, length, Some, None, codes, Option, ◌==◌}
use Rattle.std.specs.List.{slice_get}
use Rattle.store.specs.declared.span.Span.{Span}
use Rattle.store.specs.declared.term.ENode.{ENode}
use Rattle.store.specs.declared.term.HasVar.{HasVar}
use Rattle.store.specs.declared.term.HasVar.TheVariants.{No, Yes}
use Rattle.store.specs.declared.term.Term.{Term}
use Rattle.store.specs.declared.term.TermKind.TheVariants.{Var, App}
use Rattle.store.specs.Tables.{Tables}
use Rattle.request.specs.declared.kinds.Pair.{Pair}
use Rattle.request.specs.Asked.{Asked, part_at, entry_term}
use Rattle.request.specs.Bindings.{of_terms}
use Rattle.host.specs.Meaning.{HostMeaning}
use Rattle.rewrite.specs.Kinds.{basic, complex, custom, force}
use Rattle.rewrite.specs.Meaning.{RewriterMeaning}
use Rattle.matcher.specs.Search.{found, ends}
use Rattle.matcher.specs.Trees.{part, view}

abbrev span : ℕ → ℕ → Span
span o n = record { offset = o; len = n }

abbrev term : ℕ → HasVar → ℕ → ℕ → Term
term f m o n = record { kind = App f; has_var = m; child_ids = span o n }

abbrev node : ℕ → ENode
node t = record { owner = t }

-- Symbols a, b, f, p, h. Terms 0 = a, 1 = b, 2 = f(a), 3 = f(b), 4 = variable 0, 5 = f(term 4), 6 = p(5), 7 = p(3), 8 = h(0, 0), 9 = h(1, 1),
-- 10 = h(4, 4), 11 = p(10). The nodes are owned by terms 0, 1, 2, 3, 8 and 9.
abbrev pub store_e : Tables
store_e = record {
  terms = term 0 No 0 0 ∷ term 1 No 0 0 ∷ term 2 No 0 1 ∷ term 2 No 1 1 ∷ record { kind = Var 0; has_var = Yes; child_ids = span 2 0 } ∷ term 2 Yes 2 1 ∷ term 3 Yes 3 1 ∷ term 3 No 4 1 ∷ term 4 No 5 2 ∷ term 4 No 7 2 ∷ term 4 Yes 9 2 ∷ term 3 Yes 11 1 ∷ [];
  nodes = node 0 ∷ node 1 ∷ node 2 ∷ node 3 ∷ node 8 ∷ node 9 ∷ [];
  cells = 0 ∷ 1 ∷ 4 ∷ 5 ∷ 3 ∷ 0 ∷ 0 ∷ 1 ∷ 1 ∷ 4 ∷ 4 ∷ 10 ∷ [];
  symbols = span 0 1 ∷ span 1 1 ∷ span 2 1 ∷ span 3 1 ∷ span 4 1 ∷ [];
  names = codes "abfph";
}

-- a request over it with one entry; variable 0 is bound to term 1
abbrev pub asked_e : ℕ → ℕ → List Pair → Asked
asked_e pattern n ps = record {
  store = store_e;
  pattern = pattern;
  bound = of_terms (record { 0 = 1 } ∷ []);
  entries = record { node = n; pairs = span 0 (length ps) } ∷ [];
  pairs = ps;
}

abbrev live_e : List (Option ℕ)
live_e = Some 0 ∷ Some 1 ∷ Some 2 ∷ Some 3 ∷ None ∷ None ∷ None ∷ None ∷ Some 4 ∷ Some 5 ∷ []

abbrev the_node : Option (Option ℕ) → Option ℕ
the_node None = None
the_node (Some o) = o

-- all of them are live, each alone in its classes
abbrev pub host_e : HostMeaning
host_e = record { live = λ t. the_node (slice_get live_e t); loose = λ a b. (a == b); strict = λ a b. (a == b); listed = []; room = 4096 }

-- the same with nodes 0 and 1 in one loose class
abbrev pub joined_e : HostMeaning
joined_e = record { live = host_e.live; loose = λ a b. (a == b) || ((a == 0 && b == 1) || (a == 1 && b == 0)); strict = host_e.strict; listed = []; room = 4096 }

-- the same with term 0 not live
abbrev pub dead_e : HostMeaning
dead_e = record { live = λ t. cond (t == 0) None (host_e.live t); loose = host_e.loose; strict = host_e.strict; listed = []; room = 4096 }

-- what is found from entry 0 to part 0, with nothing set aside
abbrev pub found_as : Asked → RewriterMeaning → HostMeaning → Option ℕ → Option ℕ → Option (List Pair)
found_as R ρ m None b = None
found_as R ρ m (Some s) None = None
found_as R ρ m (Some s) (Some b) = found (view R.store) ρ m [] (part R s) b

abbrev pub outcome : Asked → RewriterMeaning → HostMeaning → Option (List Pair)
outcome R ρ m = found_as R ρ m (part_at R 0) (entry_term R 0)

abbrev by_basic : ℕ → ℕ → List Pair → Option (List Pair)
by_basic p n ps = outcome (asked_e p n ps) (basic ps store_e) host_e

abbrev by_complex : ℕ → ℕ → List Pair → Option (List Pair)
by_complex p n ps = outcome (asked_e p n ps) (complex ps [] store_e) host_e

pub record EightCases : Type 0 where
  pub logged_pair : by_basic 6 2 (ends 0 1 ∷ []) ≡ Some (ends 0 1 ∷ [])
  pub turned_pair : (by_basic 6 2 (ends 1 0 ∷ []) ≡ None) × (by_complex 6 2 (ends 1 0 ∷ []) ≡ Some (ends 0 1 ∷ []))
  pub second_offer : by_complex 6 2 (ends 2 1 ∷ ends 2 3 ∷ []) ≡ Some (ends 2 3 ∷ [])
  pub unrewritten_first : by_complex 6 2 (ends 2 3 ∷ ends 0 1 ∷ []) ≡ Some (ends 0 1 ∷ [])
  pub pairs_given_back : by_basic 11 4 (ends 0 1 ∷ ends 4 5 ∷ []) ≡ None
  pub no_rewrite_inside : by_complex 7 2 (ends 0 1 ∷ []) ≡ None
  pub same_at_host : outcome (asked_e 6 2 []) (custom (complex [] [] store_e)) joined_e ≡ Some (ends 0 1 ∷ [])
  pub forced : (outcome (asked_e 6 2 []) (force (complex [] [] store_e)) host_e ≡ Some (ends 0 1 ∷ [])) × (outcome (asked_e 6 2 []) (force (complex [] [] store_e)) dead_e ≡ None)
