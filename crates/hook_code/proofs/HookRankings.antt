-- Ranks of hooks by their numbers.
use Rattle.std.proofs.Common.{◌≡◌, ℕ, ◌+◌, ◌*◌, ◌<◌, ◌≤◌, List, refl, ap, ap₂, ◌∙◌, arith}
use Rattle.std.specs.Prelude.{nat_lt, ◌-◌, ◌%◌, ◌/◌}
use Rattle.std.proofs.Math.Nat.{mul-add-div, mul-add-mod_self_left}
use Rattle.std.proofs.lemmas.Bool.{cond-true, cond-false, lt-ltb, le-ltb}
use Rattle.nim_types.specs.declared.types.TypeDef.{TypeDef}
use Rattle.word_code.specs.declared.routine.TheConstants.{COPY}
use Rattle.heap_memory.specs.declared.numbers.TheConstants.{RELEASE, TEXT_COPY, SEQ_NEW}
use Rattle.hook_lifting.specs.declared.lifted.Hook.{Hook}
use Rattle.hook_lifting.specs.declared.lifted.Hook.TheVariants.{Copies, Assigns, Sinks, Ends}
use Rattle.hook_code.specs.HookCode.{hook_index, number_at}
use Rattle.hook_code.specs.Kept.{Ranks, chain_of, cut_rank, rank_by, hook_ranks}

module _ (table : List TypeDef) (first : ℕ) (level : ℕ → ℕ) (base : ℕ) (others : ℕ → ℕ) (few : (n : ℕ) → n < first → others n ≤ base) where
  abbrev ranks : ℕ → ℕ
  ranks n = hook_ranks table first level base others n

  own : (n : ℕ) → n < first → ranks n ≤ base
  own n less =
      let e = cond-true (nat_lt n first) (others n) (rank_by table level base ((n - first) % 5) ((n - first) / 5)) (lt-ltb n first less) in
      let f = few n less in omega (arith, e, f)

  at_index : (ty index : ℕ) → index < 5 → index % 5 ≡ index → index / 5 ≡ 0 → ranks (number_at first ty index) ≡ rank_by table level base index ty
  at_index ty index less rest none =
      let n : ℕ = number_at first ty index in
      let behind : n - first ≡ 5 * ty + index = omega arith in
      let quotient : (n - first) / 5 ≡ ty = ap (λ i. i / 5) behind ∙ (mul-add-div {m = 5} (omega arith) ty index
      ∙ (ap (λ i. ty + i) none ∙ (let z : ty + 0 ≡ ty = omega arith in z))) in
      let left : (n - first) % 5 ≡ index = ap (λ i. i % 5) behind ∙ (mul-add-mod_self_left 5 ty index ∙ rest) in
      cond-false (nat_lt n first) (others n) (rank_by table level base ((n - first) % 5) ((n - first) / 5)) (le-ltb n first (omega arith))
      ∙ ap₂ (λ i t. rank_by table level base i t) left quotient

  hook_rank : (hook : Hook) (ty : ℕ) → ranks (number_at first ty (hook_index hook)) ≡ base + chain_of hook (level ty)
  hook_rank Copies ty = at_index ty 0 (omega arith) refl refl
  hook_rank Assigns ty = at_index ty 1 (omega arith) refl refl
  hook_rank Sinks ty = at_index ty 2 (omega arith) refl refl
  hook_rank Ends ty = at_index ty 3 (omega arith) refl refl

  pub are_ranks : COPY < first → RELEASE < first → TEXT_COPY < first → SEQ_NEW < first → Ranks table first level base ranks
  are_ranks copy release text_copy seq_new = record {
    copy = own COPY copy;
    release = own RELEASE release;
    text_copy = own TEXT_COPY text_copy;
    seq_new = own SEQ_NEW seq_new;
    hooks = λ hook ty. hook_rank hook ty;
    cut = λ ty el at. at_index ty 4 (omega arith) refl refl ∙ ap (cut_rank level base) at;
  }
