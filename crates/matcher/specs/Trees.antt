-- A part as a tree of its places.
use Rattle.std.specs.Prelude.{ℕ, zero, suc, ◌+◌, Bool, false, ◌&&◌, List, [], ◌∷◌, Some, None, Option, ◌==◌}
use Rattle.std.specs.List.{slice_get}
use Rattle.store.specs.declared.term.HasVar.{HasVar}
use Rattle.store.specs.declared.term.HasVar.TheVariants.{No, Yes, Unknown}
use Rattle.store.specs.declared.term.Term.{Term}
use Rattle.store.specs.declared.term.TermKind.{TermKind}
use Rattle.store.specs.declared.term.TermKind.TheVariants.{Var, App, Quant}
use Rattle.store.specs.Tables.{Tables, term_at, kids, owner_of}
use Rattle.request.specs.Asked.{Asked}
use Rattle.request.specs.Bindings.{bound_term}

-- a variable with the term that it is bound to; a term that is matched whole; an application whose children are places
mutual
  pub data Pat : Type 0 where
    hole : ℕ → Option ℕ → Pat
    ground : ℕ → Pat
    app : ℕ → Pats → Pat

  pub data Pats : Type 0 where
    end : Pats
    more : Pat → Pats → Pats

abbrev mutual
  pub places : Pat → ℕ
  places (hole s o) = 1
  places (ground s) = 1
  places (app s ps) = suc (places_all ps)

  pub places_all : Pats → ℕ
  places_all end = 0
  places_all (more p ps) = places p + places_all ps

-- the tree of a term, read at most so deep
abbrev pub tree_as : Asked → ℕ → TermKind → HasVar → Pats → Pat
tree_as R s (Var v) m ps = hole s (bound_term R.store R.bound v)
tree_as R s (App f) No ps = ground s
tree_as R s (App f) Yes ps = app s ps
tree_as R s (App f) Unknown ps = app s ps
tree_as R s (Quant q) m ps = ground s

abbrev pub all_trees : (ℕ → Pat) → List ℕ → Pats
all_trees f [] = end
all_trees f (c ∷ cs) = more (f c) (all_trees f cs)

abbrev pub tree_of : Asked → ℕ → Option Term → (ℕ → Pat) → Pat
tree_of R s None f = ground s
tree_of R s (Some x) f = tree_as R s x.kind x.has_var (all_trees f (kids R.store x))

abbrev pub part_in : Asked → ℕ → ℕ → Pat
part_in R zero s = ground s
part_in R (suc k) s = tree_of R s (term_at R.store s) (part_in R k)

-- no part of an admitted request is deeper than 64
abbrev pub part : Asked → ℕ → Pat
part R s = part_in R 64 s

-- Terms as the search sees them: whether kind and child count agree, the children, and the term that owns a node.
pub record View : Type 0 where
  pub fits : ℕ → ℕ → Bool
  pub below : ℕ → List ℕ
  pub owner : ℕ → Option ℕ

abbrev pub same_kind : TermKind → TermKind → Bool
same_kind (Var a) (Var b) = a == b
same_kind (Var a) (App b) = false
same_kind (Var a) (Quant b) = false
same_kind (App a) (Var b) = false
same_kind (App a) (App b) = a == b
same_kind (App a) (Quant b) = false
same_kind (Quant a) (Var b) = false
same_kind (Quant a) (App b) = false
same_kind (Quant a) (Quant b) = a == b

abbrev pub fits_as : Option Term → Option Term → Bool
fits_as None y = false
fits_as (Some x) None = false
fits_as (Some x) (Some y) = same_kind x.kind y.kind && x.child_ids.len == y.child_ids.len

abbrev pub below_as : Tables → Option Term → List ℕ
below_as S None = []
below_as S (Some x) = kids S x

abbrev pub child_at : Tables → ℕ → ℕ → Option ℕ
child_at S t i = slice_get (below_as S (term_at S t)) i

abbrev pub view : Tables → View
view S = record { fits = λ b s. fits_as (term_at S b) (term_at S s); below = λ t. below_as S (term_at S t); owner = owner_of S }
