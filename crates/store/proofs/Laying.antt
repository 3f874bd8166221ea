-- Spans read in one pass: the last offset and the furthest end so far are all that the rest has to be held to.
use Rattle.std.proofs.Common.{◌≡◌, ℕ, zero, suc, ◌+◌, ◌<◌, ◌≤◌, cond, ltb, List, [], ◌∷◌, Some, None, sym, refl, subst, ⊎_elim, arith}
use Rattle.std.specs.List.{slice_get}
use Rattle.std.proofs.lemmas.Bool.{cases_lt, lt-ltb, le-ltb, cond-true, cond-false}
use Rattle.store.specs.declared.span.Span.{Span}
use Rattle.store.specs.Spans.{Laid, Covers, Fits}
use Rattle.store.proofs.Decided.{some_not_none, same_some}

-- how far the spans reach with one more
abbrev pub further : Span → ℕ → ℕ
further s end = cond (ltb 0 s.len) (s.offset + s.len) end

pub further_some : (s : Span) (end : ℕ) → 0 < s.len → further s end ≡ s.offset + s.len
further_some s end h = cond-true _ _ _ (lt-ltb 0 s.len h)

pub further_none : (s : Span) (end : ℕ) → s.len ≤ 0 → further s end ≡ end
further_none s end h = cond-false _ _ _ (le-ltb 0 s.len h)

abbrev pub Reads : ℕ → ℕ → ℕ → List Span → Type 0
Reads size last end [] = Unit {0}
Reads size last end (s ∷ ss) = Fits size last end s × Reads size s.offset (further s end) ss

record Ahead (last end : ℕ) (s : Span) : Type 0 where
  after : last ≤ s.offset
  clear : 0 < s.len → end ≤ s.offset

-- each of the spans is ahead
abbrev EachAhead : ℕ → ℕ → List Span → Type 0
EachAhead last end ss = (i : ℕ) (u : Span) → slice_get ss i ≡ Some u → Ahead last end u

tail_laid : (s : Span) (ss : List Span) (size : ℕ) → Laid (s ∷ ss) size → Laid ss size
tail_laid s ss size l = record {
  inside = λ i u e. l.inside (suc i) u e;
  sorted = λ i j u v h e f. l.sorted (suc i) (suc j) u v (omega arith) e f;
  apart = λ i j u v c h e f. l.apart (suc i) (suc j) u v c (omega arith) e f;
}

-- what stands behind the first span is ahead of it
behind : (s : Span) (ss : List Span) (size end : ℕ) → Laid (s ∷ ss) size → (i : ℕ) (u : Span) → slice_get ss i ≡ Some u → (0 < u.len → end ≤ u.offset) → Ahead s.offset (further s end) u
behind s ss size end l i u e old =
    let later : s.offset ≤ u.offset = l.sorted zero (suc i) s u (omega arith) refl e in
    record {
      after = later;
      clear = λ some. ⊎_elim
          (λ full. subst (λ n. n ≤ u.offset) (sym (further_some s end full)) (⊎_elim
          (λ short. absurd (l.apart zero (suc i) s u u.offset (omega arith) refl e (record { from = later; until = short }) (record { from = omega arith; until = omega arith })))
          (λ h. h)
          (cases_lt u.offset (s.offset + s.len))))
          (λ empty. subst (λ n. n ≤ u.offset) (sym (further_none s end empty)) (old some))
          (cases_lt 0 s.len);
    }

reads_from : (size last end : ℕ) (ss : List Span) → Laid ss size → EachAhead last end ss → Reads size last end ss
reads_from size last end [] l h = tt
reads_from size last end (s ∷ ss) l h = (
  record { after = (h zero s refl).after; inside = l.inside zero s refl; clear = (h zero s refl).clear },
  reads_from size s.offset (further s end) ss (tail_laid s ss size l) (λ i u e. behind s ss size end l i u e (h (suc i) u e).clear),
)

-- an empty reach stands before every span
pub laid_reads : (size : ℕ) (ss : List Span) → Laid ss size → Reads size 0 0 ss
laid_reads size ss l = reads_from size 0 0 ss l (λ i u e. record { after = omega arith; clear = λ _. omega arith })

nearer : (size last end : ℕ) (s u : Span) → Fits size last end s → Ahead s.offset (further s end) u → Ahead last end u
nearer size last end s u f a = record {
  after = omega (arith, f.after, a.after);
  clear = λ some. ⊎_elim
      (λ full. omega (arith, f.clear full, a.after))
      (λ empty. subst (λ n. n ≤ u.offset) (further_none s end empty) (a.clear some))
      (cases_lt 0 s.len);
}

ahead_from : (size last end : ℕ) (ss : List Span) → Reads size last end ss → EachAhead last end ss
ahead_from size last end [] r i u e = absurd (some_not_none None u refl e)
ahead_from size last end (s ∷ ss) r zero u e = subst (Ahead last end) (same_some _ s u refl e) (record { after = r.0.after; clear = r.0.clear })
ahead_from size last end (s ∷ ss) r (suc i) u e = nearer size last end s u r.0 (ahead_from size s.offset (further s end) ss r.1 i u e)

-- no cell of the first span is one of a span behind it
clear_of : (s u : Span) (end c : ℕ) → Ahead s.offset (further s end) u → Covers s c → Covers u c → ⊥
clear_of s u end c a p q =
    let full : 0 < s.len = omega (arith, p.from, p.until) in
    let past : s.offset + s.len ≤ u.offset = subst (λ n. n ≤ u.offset) (further_some s end full) (a.clear (omega (arith, q.from, q.until))) in
    omega (arith, p.until, q.from)

pub reads_laid : (size last end : ℕ) (ss : List Span) → Reads size last end ss → Laid ss size
reads_laid size last end [] r = record {
  inside = λ i s e. absurd (some_not_none None s refl e);
  sorted = λ i j s u h e f. absurd (some_not_none None s refl e);
  apart = λ i j s u c h e f p q. absurd (some_not_none None s refl e);
}
reads_laid size last end (s ∷ ss) r =
    let rest = reads_laid size s.offset (further s end) ss r.1 in
    let ahead = ahead_from size s.offset (further s end) ss r.1 in
    record {
      inside = elim [ zero ↦ λ u e. let same : s ≡ u = cc in subst (λ v. v.offset + v.len ≤ size) same r.0.inside | suc i ↦ λ u e. rest.inside i u e ];
      sorted = elim [
        | zero ↦ elim [ zero ↦ λ u v h e f. absurd (omega arith) | suc j ↦ λ u v h e f. let same : s ≡ u = cc in subst (λ w. w.offset ≤ v.offset) same (ahead j v f).after ]
        | suc i ↦ elim [ zero ↦ λ u v h e f. absurd (omega arith) | suc j ↦ λ u v h e f. rest.sorted i j u v (omega arith) e f ]
      ];
      apart = elim [
        | zero ↦ elim [ zero ↦ λ u v c h e f p q. absurd (omega arith) | suc j ↦ λ u v c h e f p q. let same : u ≡ s = cc in clear_of s v end c (ahead j v f) (subst (λ w. Covers w c) same p) q ]
        | suc i ↦ elim [ zero ↦ λ u v c h e f p q. absurd (omega arith) | suc j ↦ λ u v c h e f p q. rest.apart i j u v c (omega arith) e f p q ]
      ];
    }

-- what the rest decides, it decided before one more span that fits
pub record Settles (spans : List Span) (size last end : ℕ) (left : List Span) : Type 0 where
  pub whole : Reads size last end left → Laid spans size
  pub part : Laid spans size → Reads size last end left

pub begins : (spans : List Span) (size : ℕ) → Settles spans size 0 0 spans
begins spans size = record { whole = reads_laid size 0 0 spans; part = laid_reads size spans }
