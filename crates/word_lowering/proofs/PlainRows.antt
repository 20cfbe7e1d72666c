-- A line of an operation does what the row of types without hooks says: no type of it has any, but that of a text which `echo` writes.
use Rattle.std.proofs.Common.{◌≡◌, ℕ, List, [], ◌∷◌, map, Option, Some, None, Bool, true, false, refl, sym, ap, subst, ◌∙◌}
use Rattle.std.specs.Prelude.{◌||◌}
use Rattle.nim_types.specs.Table.{facts_in, type_at}
use Rattle.nim_program.specs.declared.operation.Operation.{Operation}
use Rattle.flat_code.specs.declared.line.UseAt.{UseAt}
use Rattle.nim_program.specs.View.{if_type}
use Rattle.nim_meaning.specs.Deeds.{branch, costs, looks, unless_gone, ◌>>=◌}
use Rattle.nim_meaning.specs.Here.{any_hooked, gives_hooked}
use Rattle.nim_meaning.specs.OwnedRows.{owned}
use Rattle.nim_meaning.specs.Places.{kept_if}
use Rattle.nim_meaning.specs.Table.{does}
use Rattle.nim_meaning.specs.Texts.{are_seen}
use Rattle.nim_meaning.specs.Values.{Operand}
use Rattle.flat_code.specs.declared.block.BlockLine.{BlockLine}
use Rattle.flat_code.specs.declared.line.From.{From}
use Rattle.flat_code.specs.declared.line.Line.TheVariants as L
use Rattle.flat_code.specs.Lines.{fetch, gives, traded, using, using_all, without_all}
use Rattle.flat_code.specs.Running.{scene_of}
use Rattle.flat_code.specs.Scene.{Did, Temps}
use Rattle.word_lowering.proofs.ApplyFits.{RowHere, applies, apply_line, gets_type, of_types}
use Rattle.word_lowering.proofs.ControlLines.{FollowedHere, value_type}
use Rattle.word_lowering.proofs.Lines.{Basis, IsGood, Settles, bound_for, known, starts}
use Rattle.word_lowering.proofs.OperandLines.{value_type_by}
use Rattle.word_lowering.proofs.Related.{Both, high}
use Rattle.word_lowering.proofs.Settling.{LabelsLead}
use Rattle.word_lowering.proofs.ShapeFacts.{never}
use Rattle.word_lowering.proofs.Targets.{target}
use Rattle.word_lowering.proofs.ValueFacts.{PlainNames}
use Rattle.word_lowering.proofs.NamesIn.{names_from}
use Rattle.word_lowering.proofs.Scenes.{of_value}

neither : (a b : Bool) → (a || b) ≡ false → (a ≡ false) × (b ≡ false)
neither true b h = never (sym h)
neither false b h = (refl, h)

pub using_all_mapped : (x : Basis) (g : Both) (rest : List BlockLine) (temps : Temps) (from : List From) (go other : List Operand → Did)
    → ((xs : List Operand) → Settles x g rest (go xs) → Settles x g rest (other xs)) → Settles x g rest (using_all temps from go)
    → Settles x g rest (using_all temps from other)
using_all_mapped x g rest temps [] go other h s = h [] s
using_all_mapped x g rest temps (f ∷ from) go other h s =
    by (λ z. using_all_mapped x g rest temps from (λ xs. go (z ∷ xs)) (λ xs. other (z ∷ xs)) (λ xs. h (z ∷ xs))) (fetch temps f) s
  where
    by : ((z : Operand) → Settles x g rest (using_all temps from (λ xs. go (z ∷ xs))) → Settles x g rest (using_all temps from (λ xs. other (z ∷ xs))))
        → (o : Option Operand) → Settles x g rest (using o (λ z. using_all temps from (λ xs. go (z ∷ xs))))
        → Settles x g rest (using o (λ z. using_all temps from (λ xs. other (z ∷ xs))))
    by more None s = s
    by more (Some z) s = more z s

module _ (x : Basis) (labels : LabelsLead x) (g : Both) (rest : List BlockLine) (to : ℕ) (how : UseAt) (ty : Option ℕ) (of : List (Option ℕ))
    (from : List From) where
  abbrev has_hooks : Operation → Bool
  has_hooks operation = gives_hooked (facts_in x.table) (gets_type x g rest to operation how ty of from)
      || any_hooked (facts_in x.table) (of_types x g rest to operation how ty of from)

  -- what the line does, by whether an operand of it has hooks, and a type of it
  abbrev does_by : Operation → (operands any : Bool) → Did
  does_by operation operands any = using_all g.call.temps from (λ xs.
      gives (without_all (traded operands operation from)
      (scene_of (high x.table x.blocks (starts g (apply_line x g rest to operation how ty of from) rest)))) to
      (costs 1 (branch any
      (looks (λ world. unless_gone (are_seen world xs)
      (owned operation (facts_in x.table) (if_type (known x).types ty) (map (if_type (known x).types) of) xs
      (does operation (facts_in x.table) (if_type (known x).types ty) (map (if_type (known x).types) of) xs))))
      (does operation (facts_in x.table) (if_type (known x).types ty) (map (if_type (known x).types) of) xs))
      >>= kept_if (gives_hooked (facts_in x.table) (if_type (known x).types ty)) (bound_for g how)))

  module _ (operation : Operation) (names : PlainNames x g.call.site (of_value to ∷ names_from from))
      (y : IsGood x (starts g (apply_line x g rest to operation how ty of from) rest)) where
    value_unhooked : (o : Option ℕ) → ty ≡ o → gives_hooked (facts_in x.table) (if_type (known x).types o) ≡ false
    value_unhooked None e = refl
    value_unhooked (Some n) e =
        let line = apply_line x g rest to operation how ty of from in
        let typed = value_type_by (value_type x g line rest y to) (if_type (known x).types ty) (type_at (known x).types n)
        (applies x g rest to operation how ty of from names y).given (ap (if_type (known x).types) e) in
        (target x g line rest y to (type_at (known x).types n) refl refl typed names.0).unhooked

  abbrev none_of : Type 0
  none_of = any_hooked (facts_in x.table) (map (if_type (known x).types) of) ≡ false

  pub as_row : (operation : Operation) → none_of → RowHere x g rest to operation how ty of from
      → FollowedHere x labels g rest (L.Apply to operation how ty of from)
  as_row operation none row names y =
      let line = apply_line x g rest to operation how ty of from in
      let unhooked : has_hooks operation ≡ false
      = ap (λ b. b || any_hooked (facts_in x.table) (map (if_type (known x).types) of)) (value_unhooked operation names y ty refl) ∙ none in
      subst (λ b. Settles x (starts g line rest) rest (does_by operation (any_hooked (facts_in x.table) (map (if_type (known x).types) of)) b)) (sym unhooked)
      (subst (λ b. Settles x (starts g line rest) rest (does_by operation b false)) (sym none) (row names y))
