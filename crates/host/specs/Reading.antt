-- How a host's tables are read: a missing or a wrong number is none.
use Rattle.std.specs.Prelude.{ℕ, zero, suc, Bool, true, false, cond, ◌&&◌, ◌||◌, List, Some, None, Option, ◌==◌, nat_lt}
use Rattle.std.specs.List.{slice_get}
use Rattle.store.specs.declared.term.HasVar.{HasVar}
use Rattle.store.specs.declared.term.HasVar.TheVariants.{No, Yes, Unknown}
use Rattle.store.specs.Tables.{Tables, owner_of, recorded}
pub use Rattle.store.specs.Tables.{is_the}

abbrev pub is_no : HasVar → Bool
is_no No = true
is_no Yes = false
is_no Unknown = false

-- the node that the table has for a term, if it is owned by that term and the term is closed
abbrev pub live_as : Tables → ℕ → Option ℕ → Option ℕ
live_as S t None = None
live_as S t (Some n) = cond (is_the (owner_of S n) t && is_no (recorded S t)) (Some n) None

abbrev pub live_in : Tables → List ℕ → ℕ → Option ℕ
live_in S table t = live_as S t (slice_get table t)

-- a label that names no node is none
abbrev pub label_at : ℕ → Option ℕ → Option ℕ
label_at nodes None = None
label_at nodes (Some c) = cond (nat_lt c nodes) (Some c) None

-- two labels are one class if both name nodes and are equal
abbrev pub same_label : Option ℕ → Option ℕ → Bool
same_label None l = false
same_label (Some c) None = false
same_label (Some c) (Some d) = c == d

-- nodes of one class by class numbers: one node, or two whose numbers name one class
abbrev pub numbered : ℕ → List ℕ → ℕ → ℕ → Bool
numbered nodes labels a b = nat_lt a nodes && (nat_lt b nodes && (a == b || same_label (label_at nodes (slice_get labels a)) (label_at nodes (slice_get labels b))))

-- a link counts only if it leads to a lower node
abbrev pub link_at : ℕ → Option ℕ → ℕ
link_at n None = n
link_at n (Some l) = cond (nat_lt l n) l n

-- the node that the links lead to; each link leads lower, so a node's number bounds their count
abbrev pub root_in : List ℕ → ℕ → ℕ → ℕ
root_in links zero n = n
root_in links (suc k) n = root_in links k (link_at n (slice_get links n))

abbrev pub root : List ℕ → ℕ → ℕ
root links n = root_in links n n

-- nodes of one class by links: they lead to one root
abbrev pub linked : ℕ → List ℕ → ℕ → ℕ → Bool
linked nodes links a b = nat_lt a nodes && (nat_lt b nodes && root links a == root links b)
