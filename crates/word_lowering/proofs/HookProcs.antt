-- The procedures of hooks of types, which stand behind those of block code: by the laws of hook_code they are well formed and found by their numbers.
use Rattle.std.proofs.Common.{◌≡◌, inr, ℕ, suc, ◌+◌, ◌<◌, ◌≤◌, Bool, true, false, List, [], ◌∷◌, ◌++◌, Some, refl, subst, arith}
use Rattle.std.specs.Prelude.{slice_get, nat_lt, ◌-◌, ◌%◌, ◌/◌, ◌&&◌, if◌then◌else◌}
use Rattle.std.proofs.lemmas.Bool.{and_parts, cond-true, leb-true, lt-ltb}
use Rattle.nim_types.specs.declared.types.TypeDef.{TypeDef}
use Rattle.nim_types.specs.declared.types.TypeDef.TheVariants as D
use Rattle.nim_types.specs.Table.{IsTable}
use Rattle.nim_program.specs.Sizes.{HaveForms}
use Rattle.word_code.specs.declared.routine.TheConstants.{COPY, PROCS_FROM}
use Rattle.word_code.specs.declared.word.WordProc.{WordProc}
use Rattle.word_code.specs.Words.{are_procs, have_no_hooks}
use Rattle.word_code.specs.Sizes.{AreRanked}
use Rattle.word_code.specs.Joined.{all_moved, IsFree, AreApart, HaveRoom}
use Rattle.word_code.specs.Runtime.{AreRoutines}
use Rattle.heap_memory.specs.declared.numbers.TheConstants.{RELEASE, TEXT_COPY, SEQ_NEW}
use Rattle.hook_lifting.specs.declared.lifted.Hook.{Hook}
use Rattle.hook_lifting.specs.declared.lifted.Hook.TheVariants.{Copies, Assigns, Sinks, Ends}
use Rattle.hook_lifting.specs.declared.lifted.Lifted.{Lifted}
use Rattle.hook_lifting.specs.declared.lifted.Cut.{Cut}
use Rattle.hook_lifting.specs.Lifted.{has_hooks, is_lifted, is_shallow, all_hooks, each_from, hooks_of, of_entry, lifted, cut_if, cut_entry, cuts}
use Rattle.hook_code.specs.HookCode.{hook_number, hook_procs, cut_procs, procs_in}
use Rattle.hook_code.specs.Kept.{IsOrdered, AreShort, HaveSmallElements, AreThere, CutsAreThere, Ranks, chain_of, rank_in, rank_by, hook_ranks}
use Rattle.word_lowering.specs.Lowers.{IsSmall, AreSmall}
use Rattle.word_lowering.proofs.JoinedRoutines.{beyond}
use Rattle.word_lowering.proofs.RankedChains.{HaveRanks}

-- what hook_code's laws say
pub record HookLaws : Type 0 where
  pub formed : (table : List TypeDef) (first : ℕ) → are_procs (procs_in table first) ≡ true
  pub unhooked : (table : List TypeDef) (first : ℕ) → have_no_hooks (procs_in table first) ≡ true
  pub there : (table : List TypeDef) (first shift : ℕ) (before after : List WordProc) → ((number : ℕ) → first ≤ number → IsFree number before)
      → AreThere table first (before ++ (all_moved shift (procs_in table first) ++ after))
  pub cuts_there : (table : List TypeDef) (first shift : ℕ) (before after : List WordProc) → ((number : ℕ) → first ≤ number → IsFree number before)
      → CutsAreThere table first (before ++ (all_moved shift (procs_in table first) ++ after))
  pub ordered : (table : List TypeDef) → IsTable table → HaveForms table → AreShort table → IsOrdered table (rank_in table)
  pub ranks : (table : List TypeDef) (first base : ℕ) (level others : ℕ → ℕ) → ((number : ℕ) → number < first → others number ≤ base) → COPY < first
      → RELEASE < first → TEXT_COPY < first → SEQ_NEW < first → Ranks table first level base (hook_ranks table first level base others)
  pub ranked : (table : List TypeDef) (first base : ℕ) (level rank : ℕ → ℕ) → IsOrdered table level → Ranks table first level base rank
      → AreRanked rank (procs_in table first)

-- what is known of the types of a table beside that they have forms
pub record TableBounds (table : List TypeDef) : Type 0 where
  pub short : AreShort table
  pub small : HaveSmallElements table

-- ---- each of them

-- from the first number on, of few variables and small places, and with all data
pub record IsHookProc (first : ℕ) (p : WordProc) : Type 0 where
  pub number : first ≤ p.number
  pub small : IsSmall p
  pub whole : p.data_from ≡ 0

abbrev pub AreHookProcs : ℕ → List WordProc → Type 0
AreHookProcs first [] = Unit {0}
AreHookProcs first (p ∷ ps) = IsHookProc first p × AreHookProcs first ps

module _ (table : List TypeDef) (first : ℕ) where
  hooks_are : (hs : List Lifted) (ps : List WordProc) → AreHookProcs first ps → AreHookProcs first (hook_procs table first hs ++ ps)
  hooks_are [] ps rest = rest
  hooks_are (h ∷ hs) ps rest = (
    record {
      number = omega arith;
      small = record {
        room = omega arith;
        variables = omega arith;
        together = omega arith;
        uncounted = λ e. record { room = omega arith; variables = omega arith };
      };
      whole = refl;
    },
    hooks_are hs ps rest,
  )

  cuts_are : (cs : List Cut) → AreHookProcs first (cut_procs table first cs)
  cuts_are [] = tt
  cuts_are (c ∷ cs) = (
    record {
      number = omega arith;
      small = record {
        room = omega arith;
        variables = omega arith;
        together = omega arith;
        uncounted = λ e. record { room = omega arith; variables = omega arith };
      };
      whole = refl;
    },
    cuts_are cs,
  )

  pub all_are : AreHookProcs first (procs_in table first)
  all_are = hooks_are (lifted table) (cut_procs table first (cuts table)) (cuts_are (cuts table))

pub hooks_small : (first : ℕ) (ps : List WordProc) → AreHookProcs first ps → AreSmall ps
hooks_small first [] are = tt
hooks_small first (p ∷ ps) are = (are.0.small, hooks_small first ps are.1)

pub hooks_room : (first n : ℕ) (ps : List WordProc) → AreHookProcs first ps → n ≤ 4294967295 → HaveRoom n ps
hooks_room first n [] are small = tt
hooks_room first n (p ∷ ps) are small = let d = are.0.whole in (omega (arith, d, small), hooks_room first n ps are.1 small)

-- none has a routine's number
pub hooks_beyond : (first : ℕ) (ps rs : List WordProc) → PROCS_FROM ≤ first → AreHookProcs first ps → AreRoutines rs → AreApart ps rs
hooks_beyond first [] rs far are routines = tt
hooks_beyond first (p ∷ ps) rs far are routines =
    let from = are.0.number in
    (beyond p.number rs routines (inr (omega (arith, from, far))), hooks_beyond first ps rs far are.1 routines)

-- nor one before the first
pub hooks_free : (first n : ℕ) (ps : List WordProc) → n < first → AreHookProcs first ps → IsFree n ps
hooks_free first n [] less are = tt
hooks_free first n (p ∷ ps) less are = let from = are.0.number in ((λ e. absurd (omega (arith, from, less, e))), hooks_free first n ps less are.1)

-- ---- ranks

-- those of procedures before the first
pub rank_before : (table : List TypeDef) (first : ℕ) (level : ℕ → ℕ) (base : ℕ) (others : ℕ → ℕ) (n : ℕ) → n < first
    → hook_ranks table first level base others n ≡ others n
rank_before table first level base others n less =
    cond-true (nat_lt n first) (others n) (rank_by table level base ((n - first) % 5) ((n - first) / 5)) (lt-ltb n first less)

module _ (table : List TypeDef) (first base : ℕ) (rank : ℕ → ℕ) (ranks : Ranks table first (rank_in table) base rank)
    (elements : (ty el : ℕ) → slice_get table ty ≡ Some (D.Seq el) → rank_in table el < rank_in table ty) where
  chain_few : (hook : Hook) (r : ℕ) → r ≤ 64 → chain_of hook r ≤ 130
  chain_few Copies r few = omega (arith, few)
  chain_few Assigns r few = omega (arith, few)
  chain_few Sinks r few = omega (arith, few)
  chain_few Ends r few = omega (arith, few)

  -- of a type whose hooks are lifted
  abbrev IsLow : ℕ → Type 0
  IsLow ty = rank_in table ty ≤ 64

  lifted_low : (ty : ℕ) → is_lifted table ty ≡ true → IsLow ty
  lifted_low ty is = leb-true (rank_in table ty) 64 (and_parts (has_hooks table ty) (is_shallow table ty) is).1

  -- in front of others
  entry_low : (ty : ℕ) (d : TypeDef) (more : List Lifted) (ps : List WordProc) → HaveRanks rank (base + 130) (hook_procs table first more ++ ps)
      → HaveRanks rank (base + 130) (hook_procs table first (of_entry table ty d ++ more) ++ ps)
  entry_low ty d more ps later = by (is_lifted table ty) refl
    where
      one : (hook : Hook) → IsLow ty → rank (hook_number first hook ty) ≤ base + 130
      one hook low = let r = ranks.hooks hook ty in let c = chain_few hook (rank_in table ty) low in omega (arith, r, c)

      by : (b : Bool) → is_lifted table ty ≡ b
          → HaveRanks rank (base + 130) (hook_procs table first ((if b then hooks_of table ty d all_hooks else []) ++ more) ++ ps)
      by true is =
          let low = lifted_low ty is in ((λ u. one Copies low), ((λ u. one Assigns low), ((λ u. one Sinks low), ((λ u. one Ends low), later))))
      by false is = later

  hooks_low : (ds : List TypeDef) (ty : ℕ) (ps : List WordProc) → HaveRanks rank (base + 130) ps
      → HaveRanks rank (base + 130) (hook_procs table first (each_from (of_entry table) ds ty) ++ ps)
  hooks_low [] ty ps rest = rest
  hooks_low (d ∷ ds) ty ps rest = entry_low ty d (each_from (of_entry table) ds (suc ty)) ps (hooks_low ds (suc ty) ps rest)

  cut_low : (ty : ℕ) (e : TypeDef) (more : List Cut) → slice_get table ty ≡ Some e → HaveRanks rank (base + 130) (cut_procs table first more)
      → HaveRanks rank (base + 130) (cut_procs table first (cut_entry table ty e ++ more))
  cut_low ty (D.Seq el) more at later = by (has_hooks table el && is_shallow table ty) refl
    where
      by : (b : Bool) → (has_hooks table el && is_shallow table ty) ≡ b → HaveRanks rank (base + 130) (cut_procs table first (cut_if b ty el ++ more))
      by true is =
          let low = leb-true (rank_in table ty) 64 (and_parts (has_hooks table el) (is_shallow table ty) is).1 in
          let less = elements ty el at in
          let r = ranks.cut ty el at in
          ((λ u. omega (arith, r, less, low)), later)
      by false is = later
  cut_low ty D.Int more at later = later
  cut_low ty D.Bool more at later = later
  cut_low ty D.Char more at later = later
  cut_low ty D.Text more at later = later
  cut_low ty (D.Param n) more at later = later
  cut_low ty (D.Enum name place members) more at later = later
  cut_low ty (D.Array n el) more at later = later
  cut_low ty (D.Tuple names ps) more at later = later
  cut_low ty (D.Object name place of fields own ps) more at later = later
  cut_low ty (D.Distinct name place of) more at later = later
  cut_low ty (D.Ref name of) more at later = later
  cut_low ty (D.Exception name place parent) more at later = later

  -- entries from one on are those of the table
  abbrev Behind : List TypeDef → (ty : ℕ) → Type 0
  Behind ds ty = (j : ℕ) (d : TypeDef) → slice_get ds j ≡ Some d → slice_get table (ty + j) ≡ Some d

  cuts_low : (ds : List TypeDef) (ty : ℕ) → Behind ds ty → HaveRanks rank (base + 130) (cut_procs table first (each_from (cut_entry table) ds ty))
  cuts_low [] ty behind = tt
  cuts_low (d ∷ ds) ty behind =
      let here = subst (λ t. slice_get table t ≡ Some d) (let e : ty + 0 ≡ ty = omega arith in e) (behind 0 d refl) in
      let next = λ (j : ℕ) (e : TypeDef) (at : slice_get ds j ≡ Some e). subst (λ t. slice_get table t ≡ Some e)
      (let s : ty + suc j ≡ suc ty + j = omega arith in s) (behind (suc j) e at) in
      cut_low ty d (each_from (cut_entry table) ds (suc ty)) here (cuts_low ds (suc ty) next)

  pub all_low : HaveRanks rank (base + 130) (procs_in table first)
  all_low =
      hooks_low table 0 (cut_procs table first (cuts table))
      (cuts_low table 0 (λ j d at. subst (λ t. slice_get table t ≡ Some d) (let e : j ≡ 0 + j = omega arith in e) at))
