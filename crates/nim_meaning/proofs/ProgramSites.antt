-- The sites of a whole program are those of its trees; without hooks it has none.
use Rattle.std.proofs.Common.{◌≡◌, ◌⊎◌, inl, inr, ⊎_elim, ℕ, zero, suc, true, List, [], ◌∷◌, Option, Some, None, refl, sym, subst, ◌∙◌, arith}
use Rattle.std.proofs.lemmas.List.Elements.{Contains-append_left, Contains-append_right, Contains-append_cases}
use Rattle.std.specs.List.{Contains}
use Rattle.nim_types.specs.Types.{Facts}
use Rattle.nim_program.specs.declared.program.Mode.{Mode}
use Rattle.nim_program.specs.Program.{Param, Body, Proc, Program}
use Rattle.nim_meaning.specs.Here.{is_hooked}
use Rattle.nim_meaning.specs.Shapes.{modes_in}
use Rattle.nim_meaning.specs.Runs.{is_plain_body, are_plain_params, is_plain_if_body, are_plain_procs, has_no_hooks}
use Rattle.nim_meaning.specs.ActsOf.{acts_at}
use Rattle.nim_meaning.specs.Sites.{sites_in, IsSite}
use Rattle.nim_meaning.specs.TreeSites.{block_sites, sites_if_body, proc_sites, all_sites}
use Rattle.nim_meaning.proofs.ActSites.{body_sites, if_body_sites}
use Rattle.nim_meaning.proofs.NoSites.{one, other, body_none}

none_here : (n : ℕ) → Contains [] n → ⊥
none_here n h = omega (arith, h.1)

module _ (facts : Facts) (modes in_body : (proc position : ℕ) → Mode) where
  pub from_procs : (procs : List Proc) (at proc n : ℕ) → Contains (sites_in (acts_at (is_hooked facts) modes in_body at procs proc)) n →
      Contains (proc_sites facts modes procs) n
  from_procs [] at proc n h = absurd (none_here n h)
  from_procs (p ∷ rest) at zero n h =
      Contains-append_left (sites_if_body facts modes p.body) (proc_sites facts modes rest) n
      (subst (λ ns. Contains ns n) (if_body_sites facts modes in_body at p.params p.body) h)
  from_procs (p ∷ rest) at (suc proc) n h =
      Contains-append_right (sites_if_body facts modes p.body) (proc_sites facts modes rest) n (from_procs rest (suc at) proc n h)

  pub into_procs : (procs : List Proc) (at n : ℕ) → Contains (proc_sites facts modes procs) n →
      (proc : ℕ) × Contains (sites_in (acts_at (is_hooked facts) modes in_body at procs proc)) n
  into_procs [] at n h = absurd (none_here n h)
  into_procs (p ∷ rest) at n h = ⊎_elim
      (λ here. (0, subst (λ ns. Contains ns n) (sym (if_body_sites facts modes in_body at p.params p.body)) here))
      (λ there. let more = into_procs rest (suc at) n there in (suc more.0, more.1))
      (Contains-append_cases (sites_if_body facts modes p.body) (proc_sites facts modes rest) n h)

pub from_site : (program : Program) (sinks : List ℕ) (n : ℕ) → IsSite program sinks n → Contains (all_sites program sinks) n
from_site program sinks n =
    let facts = program.facts in
    let modes = modes_in sinks program.procs in
    let procs = proc_sites facts modes program.procs in
    let start = block_sites facts modes program.start.stmts in
    ⊎_elim (λ here. Contains-append_right procs start n (subst (λ ns. Contains ns n) (body_sites facts modes program.start) here))
    (λ there. Contains-append_left procs start n (from_procs facts modes modes program.procs 0 there.0 n there.1))

pub into_site : (program : Program) (sinks : List ℕ) (n : ℕ) → Contains (all_sites program sinks) n → IsSite program sinks n
into_site program sinks n h =
    let facts = program.facts in
    let modes = modes_in sinks program.procs in
    let procs = proc_sites facts modes program.procs in
    let start = block_sites facts modes program.start.stmts in
    ⊎_elim (λ there. inr (into_procs facts modes modes program.procs 0 n there))
    (λ here. inl (subst (λ ns. Contains ns n) (sym (body_sites facts modes program.start)) here)) (Contains-append_cases procs start n h)

-- ---- without hooks

module _ (facts : Facts) (modes in_body : (proc position : ℕ) → Mode) where
  if_body_none : (params : List Param) (body : Option Body) → is_plain_if_body (is_hooked facts) params body ≡ true →
      sites_if_body facts modes body ≡ []
  if_body_none params None e = refl
  if_body_none params (Some body) e =
      body_none facts modes body (other (are_plain_params (is_hooked facts) params) (is_plain_body (is_hooked facts) body) e)

  procs_none : (procs : List Proc) (at proc : ℕ) → are_plain_procs (is_hooked facts) procs ≡ true →
      sites_in (acts_at (is_hooked facts) modes in_body at procs proc) ≡ []
  procs_none [] at proc e = refl
  procs_none (p ∷ rest) at zero e =
      if_body_sites facts modes in_body at p.params p.body
      ∙ if_body_none p.params p.body (one (is_plain_if_body (is_hooked facts) p.params p.body) (are_plain_procs (is_hooked facts) rest) e)
  procs_none (p ∷ rest) at (suc proc) e =
      procs_none rest (suc at) proc (other (is_plain_if_body (is_hooked facts) p.params p.body) (are_plain_procs (is_hooked facts) rest) e)

pub no_site : (program : Program) (sinks : List ℕ) (n : ℕ) → has_no_hooks program ≡ true → IsSite program sinks n → ⊥
no_site program sinks n e =
    let facts = program.facts in
    let modes = modes_in sinks program.procs in
    let procs = are_plain_procs (is_hooked facts) program.procs in
    let start = is_plain_body (is_hooked facts) program.start in
    ⊎_elim
    (λ here. none_here n (subst (λ ns. Contains ns n)
    (body_sites facts modes program.start ∙ body_none facts modes program.start (other procs start e)) here))
    (λ there. none_here n (subst (λ ns. Contains ns n) (procs_none facts modes modes program.procs 0 there.0 (one procs start e)) there.1))
