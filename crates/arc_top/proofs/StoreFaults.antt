-- What the count of faults says of a store that failed.
use Rattle.std.proofs.Common.{◌≡◌, ℕ, Result, Err, ap, subst, ◌∙◌}
use Rattle.arc_base.specs.declared.outside.FileFault.{FileFault}
use Rattle.arc_base.specs.declared.outside.FileFault.TheVariants.{Failed, Memory}
use Rattle.arc_base.specs.Outside.{Rose, FileCause}

module _ {T : Type 0} (before now : ℕ) (result : Result T FileFault) (e : FileFault) (is : result ≡ Err e) (cause : FileCause before now result) where
  pub rose : e ≡ Failed → Rose before now
  rose failed = let why : FileCause {T = T} before now (Err Failed) = subst (λ r. FileCause before now r) (is ∙ ap Err failed) cause in why.2

  -- no memory was found for it
  pub stays : e ≡ Memory → now ≡ before
  stays wanting = subst (λ r. FileCause before now r) (is ∙ ap Err wanting) cause
