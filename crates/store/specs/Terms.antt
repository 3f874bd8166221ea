-- What is said of terms by themselves, and what a term's record of free variables follows from.
use Rattle.std.specs.Prelude.{◌≡◌, ℕ, ◌<◌, Bool, true, false, cond, List}
use Rattle.std.specs.List.{list_any}
use Rattle.store.specs.declared.term.Term.{Term}
use Rattle.store.specs.declared.term.TermKind.{TermKind}
use Rattle.store.specs.declared.term.TermKind.TheVariants.{Var, App, Quant}
use Rattle.store.specs.declared.term.HasVar.{HasVar}
use Rattle.store.specs.declared.term.HasVar.TheVariants.{No, Yes, Unknown}

-- the two have one kind and equally many children
pub record CanMatch (a b : Term) : Type 0 where
  pub kinds : a.kind ≡ b.kind
  pub arity : a.child_ids.len ≡ b.child_ids.len

abbrev pub is_unknown : HasVar → Bool
is_unknown No = false
is_unknown Yes = false
is_unknown Unknown = true

abbrev pub is_yes : HasVar → Bool
is_yes No = false
is_yes Yes = true
is_yes Unknown = false

-- an application: unknown if a child is, else yes if a child is, else no
abbrev pub of_children : List HasVar → HasVar
of_children ms = cond (list_any is_unknown ms) Unknown (cond (list_any is_yes ms) Yes No)

-- by kind: yes for a variable, unknown for a quantifier
abbrev pub follows : TermKind → List HasVar → HasVar
follows (Var n) ms = Yes
follows (App f) ms = of_children ms
follows (Quant q) ms = Unknown

-- an application's symbol is one of the first n
abbrev pub Listed : TermKind → ℕ → Type 0
Listed (Var v) n = Unit {0}
Listed (App f) n = f < n
Listed (Quant q) n = Unit {0}

-- a variable has no children
abbrev pub Childless : TermKind → ℕ → Type 0
Childless (Var v) n = n ≡ 0
Childless (App f) n = Unit {0}
Childless (Quant q) n = Unit {0}
