-- The first word of bytes, after the white space at their front. Assumes nothing.
use Rattle.std.proofs.Common.{◌≡◌, ℕ, ◌<◌, ◌≤◌, true, false, List, ◌++◌, length, get_or, take, sym, ap, ◌∙◌, arith, ⊎_elim, add-zero, length-take-le, take-append-drop, get_or-drop}
use Rattle.std.proofs.lemmas.List.{get_or-take, get_or_default, nil_from_length}
use Rattle.std.proofs.str.Laws.{order}
use Rattle.std.specs.Char.{is_ascii_whitespace}
use Rattle.std.specs.Str.{IsTrimAsciiStart}
use Rattle.explain.specs.Cuts.{White, FirstWord}

module _ (bs start word after : List ℕ) (trimmed : IsTrimAsciiStart bs start) (parts : start ≡ word ++ after) (ends : 0 < length after → is_ascii_whitespace (get_or after 0 0) ≡ false → ⊥) where
  before : (k d : ℕ) → k < trimmed.0 → is_ascii_whitespace (get_or bs k d) ≡ true
  before k d h = ap is_ascii_whitespace (get_or_default bs k d 0 (omega (arith, trimmed.2))) ∙ trimmed.3 k h

  pub first_word : White false word → 0 < length word → FirstWord bs word after
  first_word solid some = record {
    gap = take trimmed.0 bs;
    cut = sym (take-append-drop trimmed.0 bs) ∙ ap (λ l. take trimmed.0 bs ++ l) (sym trimmed.1 ∙ parts);
    blank = λ k d h.
        let within : k < trimmed.0 = omega (arith, h, length-take-le trimmed.0 bs (omega (arith, trimmed.2))) in
        ap is_ascii_whitespace (get_or-take trimmed.0 bs k d within) ∙ before k d within;
    some = some;
    solid = solid;
    ends = ends;
  }

  -- where no word begins after the white space, there is nothing after it
  pub no_word : length word ≡ 0 → White true bs
  no_word none k d h = ⊎_elim (before k d) (λ past. absurd (ends (left past) (bright past))) (order k trimmed.0)
    where
      all : start ≡ after
      all = parts ∙ ap (λ l. l ++ after) (nil_from_length word none)

      left : trimmed.0 ≤ k → 0 < length after
      left past = omega (arith, h, past, trimmed.2, ap length all)

      bright : trimmed.0 ≤ k → is_ascii_whitespace (get_or after 0 0) ≡ false
      bright past = ap is_ascii_whitespace (ap (λ l. get_or l 0 0) (sym all ∙ trimmed.1) ∙ get_or-drop trimmed.0 bs 0 0 ∙ ap (λ i. get_or bs i 0) (add-zero trimmed.0)) ∙ trimmed.4 (omega (arith, h, past))
