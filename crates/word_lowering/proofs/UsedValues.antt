-- Where the value of a line waits that has hooks: by what block code says of the line.
use Rattle.std.proofs.Common.{◌≡◌, ℕ, List, Some, Bool, true, false, not, sym, ap₂, ◌∙◌, ap, length, map}
use Rattle.std.specs.Prelude.{◌&&◌, ◌||◌}
use Rattle.nim_types.specs.Table.{facts_in, type_at}
use Rattle.nim_meaning.specs.Here.{gives_hooked}
use Rattle.flat_code.specs.declared.block.BlockLine.{BlockLine}
use Rattle.flat_code.specs.declared.line.UseAt.{UseAt}
use Rattle.flat_code.specs.Codes.{block_plain}
use Rattle.flat_code.specs.Fits.{is_value}
use Rattle.flat_code.specs.Waits.{used_at, waits_in, waits_right}
use Rattle.word_lowering.specs.declared.homes.Waiter.{Waiter}
use Rattle.word_lowering.proofs.HouseHooks.{hooks_as}
use Rattle.word_lowering.proofs.KeptLines.{WaitsAt}
use Rattle.word_lowering.proofs.Lines.{Basis, IsGood, known, starts}
use Rattle.word_lowering.proofs.Related.{Both, body_of}
use Rattle.word_lowering.proofs.Scenes.{of_value}
use Rattle.word_lowering.proofs.ShapeFacts.{never}
use Rattle.word_lowering.proofs.Targets.{given}
use Rattle.word_lowering.proofs.ValueFacts.{type_in}
use Rattle.word_lowering.proofs.WaitsRight.{right, waits_at}
use Rattle.word_lowering.specs.declared.homes.Alias.TheVariants as alias
use Rattle.word_lowering.specs.Aliases.{alias_by, texts_of, value_to}

right_one : (b c : Bool) → b ≡ true → (not b || c) ≡ true → c ≡ true
right_one true c e h = h
right_one false c e h = never e

module _ (x : Basis) (g : Both) (line : BlockLine) (rest : List BlockLine) (y : IsGood x (starts g line rest)) where
  pub used_there : (waits : Bool) (to : ℕ) (how : UseAt) (ty : ℕ)
      → waits_right (known x) (body_of g).proc.places (block_plain line) ≡ used_at (known x) (body_of g).proc.places waits to how (Some ty)
      → value_to (block_plain line) ≡ Some to → alias_by (block_plain line) (length (texts_of (map block_plain rest))) ≡ alias.Own
      → type_in x is_value (body_of g) to ≡ Some (type_at (known x).types ty) → gives_hooked (facts_in x.table) (Some (type_at (known x).types ty)) ≡ true
      → waits ≡ true → (w : Waiter) × WaitsAt x g.call.site to how.node w
  used_there waits to how ty is gets own typed hooks e =
      waits_at x g line rest y to how.node
      (right_one (gives_hooked (facts_in x.table) (Some (type_at (known x).types ty)) && waits) (waits_in (known x) (body_of g).proc.places to how.node)
      (ap₂ (λ a b. a && b) hooks e) (sym is ∙ right x g line rest y))
      (given x g line rest y to (type_at (known x).types ty) gets own typed).there
      (hooks_as x g.call.site y.linked.0 (of_value to) (type_at (known x).types ty) typed ∙ hooks)
