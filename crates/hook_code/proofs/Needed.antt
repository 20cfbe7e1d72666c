-- What a hook calls, by ranks of types: hooks of types of lower ranks, or other hooks of its type.
use Rattle.std.proofs.Common.{◌≡◌, ℕ, suc, ◌<◌, ◌≤◌, Bool, true, false, List, Some, refl, arith}
use Rattle.std.specs.Prelude.{slice_get}
use Rattle.nim_types.specs.declared.types.TypeDef.{TypeDef}
use Rattle.nim_types.specs.declared.types.TypeDef.TheVariants as D
use Rattle.hook_lifting.specs.declared.lifted.Hook.{Hook}
use Rattle.hook_lifting.specs.declared.lifted.Hook.TheVariants.{Copies, Assigns, Sinks, Ends}
use Rattle.hook_lifting.specs.Weights.{extra_of}
use Rattle.hook_lifting.specs.Lifted.{has_hooks, is_needed}
use Rattle.hook_code.specs.Kept.{IsPartOf, IsOrdered, chain_of, pace_at}
use Rattle.hook_code.proofs.Fitting.{Needs}

-- a hook of a part
pub part_chain : (n : ℕ) (hook : Hook) (p r : ℕ) → p < r → chain_of hook r ≤ suc n → chain_of hook p ≤ n
part_chain n Copies p r less le = omega (arith, less, le)
part_chain n Ends p r less le = omega (arith, less, le)
part_chain n Assigns p r less le = omega (arith, less, le)
part_chain n Sinks p r less le = omega (arith, less, le)

pub some_chain : (hook : Hook) (r : ℕ) → 1 ≤ chain_of hook r
some_chain Copies r = omega arith
some_chain Ends r = omega arith
some_chain Assigns r = omega arith
some_chain Sinks r = omega arith

-- What is true of the same hook of parts with hooks, of other hooks of a text or a sequence, and of what has no hooks, where something is done with it.
module _ (table : List TypeDef) (rank : ℕ → ℕ) (ordered : IsOrdered table rank) (P : Hook → ℕ → Type 0) (ty : ℕ) (hook : Hook) (d : TypeDef)
    (typed : slice_get table ty ≡ Some d) (hooks : has_hooks table ty ≡ true)
    (lower : (p : ℕ) (e : TypeDef) → IsPartOf d p → slice_get table p ≡ Some e → has_hooks table p ≡ true → rank p < rank ty → P hook p)
    (own : (other : Hook) → extra_of d ≡ 0 → chain_of other (rank ty) < chain_of hook (rank ty) → pace_at other (rank ty) < pace_at hook (rank ty) → P other ty)
    (bare : (p : ℕ) → has_hooks table p ≡ false → is_needed hook (has_hooks table p) ≡ true → P hook p) where
  part_may : (p : ℕ) → IsPartOf d p → is_needed hook (has_hooks table p) ≡ true → P hook p
  part_may p of needed = by (has_hooks table p) refl
    where
      by : (some : Bool) → has_hooks table p ≡ some → P hook p
      by true is = let l = ordered.parts ty p d typed of hooks is in lower p l.0 of l.1 is l.2
      by false is = bare p is needed

needed_by : (hook : Hook) (hooks : Bool) → hooks ≡ true → is_needed hook hooks ≡ true
needed_by Copies hooks is = refl
needed_by Assigns hooks is = refl
needed_by Sinks hooks is = refl
needed_by Ends hooks is = is

module _ (table : List TypeDef) (rank : ℕ → ℕ) (ordered : IsOrdered table rank) (P : Hook → ℕ → Type 0) (ty : ℕ) where
  abbrev Lower : Hook → TypeDef → Type 0
  Lower hook d = (p : ℕ) (e : TypeDef) → IsPartOf d p → slice_get table p ≡ Some e → has_hooks table p ≡ true → rank p < rank ty → P hook p

  abbrev Own : Hook → TypeDef → Type 0
  Own hook d = (other : Hook) → extra_of d ≡ 0 → chain_of other (rank ty) < chain_of hook (rank ty) → pace_at other (rank ty) < pace_at hook (rank ty)
      → P other ty

  abbrev Bare : Hook → Type 0
  Bare hook = (p : ℕ) → has_hooks table p ≡ false → is_needed hook (has_hooks table p) ≡ true → P hook p

  pub needs_of : (hook : Hook) (d : TypeDef) → slice_get table ty ≡ Some d → has_hooks table ty ≡ true → Lower hook d → Own hook d → Bare hook
      → Needs table ty hook d P
  needs_of Copies D.Text typed hooks lower own bare = tt
  needs_of Ends D.Text typed hooks lower own bare = tt
  needs_of Assigns D.Text typed hooks lower own bare =
      (own Copies refl (omega arith) (omega arith), own Ends refl (omega arith) (omega arith))
  needs_of Sinks D.Text typed hooks lower own bare = own Ends refl (omega arith) (omega arith)
  needs_of Copies (D.Seq el) typed hooks lower own bare =
      part_may table rank ordered P ty Copies (D.Seq el) typed hooks lower own bare el refl refl
  needs_of Ends (D.Seq el) typed hooks lower own bare = λ is. part_may table rank ordered P ty Ends (D.Seq el) typed hooks lower own bare el refl is
  needs_of Assigns (D.Seq el) typed hooks lower own bare =
      (own Copies refl (omega arith) (omega arith), own Ends refl (omega arith) (omega arith))
  needs_of Sinks (D.Seq el) typed hooks lower own bare = own Ends refl (omega arith) (omega arith)
  needs_of hook (D.Array m el) typed hooks lower own bare =
      let a = ordered.arrays ty m el typed hooks in
      (part_may table rank ordered P ty hook (D.Array m el) typed hooks lower own bare el refl (needed_by hook (has_hooks table el) a.0), a.1)
  needs_of hook (D.Tuple names ps) typed hooks lower own bare =
      λ j p at needed. part_may table rank ordered P ty hook (D.Tuple names ps) typed hooks lower own bare p (j, at) needed
  needs_of hook (D.Object name place of fields owned ps) typed hooks lower own bare =
      λ j p at needed. part_may table rank ordered P ty hook (D.Object name place of fields owned ps) typed hooks lower own bare p (j, at) needed
  needs_of hook (D.Distinct name place base) typed hooks lower own bare =
      part_may table rank ordered P ty hook (D.Distinct name place base) typed hooks lower own bare base refl
      (needed_by hook (has_hooks table base) (ordered.bases ty base (D.Distinct name place base) typed refl hooks))
  needs_of hook D.Int typed hooks lower own bare = tt
  needs_of hook D.Bool typed hooks lower own bare = tt
  needs_of hook D.Char typed hooks lower own bare = tt
  needs_of hook (D.Param m) typed hooks lower own bare = tt
  needs_of hook (D.Enum name place all) typed hooks lower own bare = tt
  needs_of hook (D.Ref name base) typed hooks lower own bare = tt
  needs_of hook (D.Exception name place parent) typed hooks lower own bare = tt
