-- The ways in which a making ends.
use Rattle.std.proofs.Common.{◌≡◌, ℕ, ◌<◌, ◌≤◌, true, false, [], ◌∷◌, ◌++◌, length, Ok, Err, Result, sym, ap, ◌∙◌, subst, subst₂, ⊎_elim}
use Rattle.store.specs.declared.fault.Fault.{Fault}
use Rattle.store.specs.declared.fault.Refusal.TheVariants.{BadEnds, HostFull}
use Rattle.store.specs.Tables.{Tables}
use Rattle.request.specs.declared.kinds.Pair.{Pair}
use Rattle.request.specs.Pairs.{is_proper}
use Rattle.host.specs.declared.allowed.TransEqAllowed.{TransEqAllowed}
use Rattle.host.specs.Meaning.{HostMeaning, Permitted, Permits, Unlisted, in_host, with_listed, Makes, bad_ends, apart, loosely_joined, full, added}

module _ (S : Tables) (m : HostMeaning) (p : Pair) (a : TransEqAllowed) where
  pub refused_ends : (f : Fault) → is_proper S p ≡ false → f ≡ in_host BadEnds → Makes S m p a (Err f) m
  refused_ends f n e = subst (λ g. Makes S m p a (Err g) m) (sym e) (bad_ends n)

  pub refused_permit : (f g : Fault) (r : Result ℕ Fault) → is_proper S p ≡ true → Permits m p a (Err f) → r ≡ Err g → g ≡ f → Makes S m p a r m
  refused_permit f g r good bad e same =
      subst (λ q. Makes S m p a q m) (sym (e ∙ ap Err same)) (⊎_elim
      (λ b. subst (λ q. Makes S m p a (Err q) m) (sym b.0) (apart good b.1 b.2))
      (λ b. subst (λ q. Makes S m p a (Err q) m) (sym b.0) (loosely_joined good b.1 b.2 b.3))
      bad)

  pub refused_full : (f : Fault) (m' : HostMeaning) → is_proper S p ≡ true → Permitted m p a → Unlisted m p → m.room ≤ length m.listed → f ≡ in_host HostFull → m' ≡ m → Makes S m p a (Err f) m'
  refused_full f m' good may new no_room e same =
      subst₂ (λ q n. Makes S m p a (Err q) n) (sym e) (sym same) (full good may new no_room)

  pub made_new : (k : ℕ) (m' : HostMeaning) → is_proper S p ≡ true → Permitted m p a → Unlisted m p → length m.listed < m.room → k ≡ length m.listed → m' ≡ with_listed m (m.listed ++ p ∷ []) → Makes S m p a (Ok k) m'
  made_new k m' good may new room e same =
      subst₂ (λ q n. Makes S m p a (Ok q) n) (sym e) (sym same) (added good may new room)
