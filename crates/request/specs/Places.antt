-- The places of a part: the occurrences of terms in it, in preorder.
use Rattle.std.specs.Prelude.{ℕ, List, [], ◌∷◌, ◌++◌, Some, None, Option}
use Rattle.store.specs.declared.term.Term.{Term}
use Rattle.store.specs.declared.term.TermKind.{TermKind}
use Rattle.store.specs.declared.term.TermKind.TheVariants.{Var, App, Quant}
use Rattle.store.specs.declared.term.HasVar.{HasVar}
use Rattle.store.specs.declared.term.HasVar.TheVariants.{No, Yes, Unknown}
use Rattle.store.specs.Tables.{Tables, term_at, kids}

-- the number of a variable
abbrev pub number_of : TermKind → Option ℕ
number_of (Var v) = Some v
number_of (App f) = None
number_of (Quant q) = None

abbrev pub variable_in : Option Term → Option ℕ
variable_in None = None
variable_in (Some x) = number_of x.kind

abbrev pub variable_at : Tables → ℕ → Option ℕ
variable_at S s = variable_in (term_at S s)

-- of an application that is not closed, the children are places too
abbrev pub unless_closed : HasVar → List ℕ → List ℕ
unless_closed No ks = []
unless_closed Yes ks = ks
unless_closed Unknown ks = ks

abbrev pub opened_as : TermKind → HasVar → List ℕ → List ℕ
opened_as (Var v) m ks = []
opened_as (App f) m ks = unless_closed m ks
opened_as (Quant q) m ks = []

abbrev pub opened_in : Tables → Option Term → List ℕ
opened_in S None = []
opened_in S (Some x) = opened_as x.kind x.has_var (kids S x)

abbrev pub opened : Tables → ℕ → List ℕ
opened S t = opened_in S (term_at S t)

-- ts are the places of term t, first itself and then those of each child that is one
mutual
  pub data Preorder (S : Tables) : ℕ → List ℕ → Type 0 where
    place : {t : ℕ} {ts : List ℕ} → Preorders S (opened S t) ts → Preorder S t (t ∷ ts)

  pub data Preorders (S : Tables) : List ℕ → List ℕ → Type 0 where
    none : Preorders S [] []
    more : {c : ℕ} {cs ts us : List ℕ} → Preorder S c ts → Preorders S cs us → Preorders S (c ∷ cs) (ts ++ us)
