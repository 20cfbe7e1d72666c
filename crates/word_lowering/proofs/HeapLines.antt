-- Lines that come with the heap don't stand in code that is lowered: no place has their types.
use Rattle.std.proofs.Common.{inl, inr, ◌≡◌, ℕ, List, [], ◌∷◌, Option, Some, None, Bool, true, false, refl, sym, ap, subst, ◌∙◌, ◌⊎◌}
use Rattle.std.specs.Prelude.{◌||◌}
use Rattle.std.proofs.lemmas.Bool.{and_parts, true≢false}
use Rattle.nim_types.specs.Types as type
use Rattle.nim_types.specs.Types.{Ty, Facts, fact_of}
use Rattle.nim_types.specs.Table.{facts_in, type_at, types_in}
use Rattle.nim_program.specs.declared.operation.Operation.{Operation}
use Rattle.nim_program.specs.declared.operation.Operation.TheVariants as O
use Rattle.nim_program.specs.Kinds as kind
use Rattle.nim_program.specs.Kinds.{TypeKind, kind_of, kind_if, declared_kind, is_of, is_text, is_sequence, is_ref, is_resized, is_bool, object_of, same_value}
use Rattle.nim_program.specs.Kinds.{is_resource}
use Rattle.flat_code.specs.declared.block.BlockLine.{BlockLine}
use Rattle.flat_code.specs.declared.line.From.{From}
use Rattle.flat_code.specs.declared.line.From.TheVariants as F
use Rattle.flat_code.specs.declared.line.Line.TheVariants as L
use Rattle.flat_code.specs.Fits.{is_location}
use Rattle.flat_code.specs.Shapes.{Shape, block, shape_of}
use Rattle.nim_program.specs.View.{if_type}
use Rattle.flat_code.specs.declared.line.UseAt.{UseAt}
use Rattle.word_lowering.proofs.ApplyFits.{applies, RowHere}
use Rattle.word_lowering.proofs.ControlLines.{FollowedHere, plain, value_type}
use Rattle.word_lowering.proofs.LineFits.{are_of, declared_other, same_type, some_kind}
use Rattle.word_lowering.proofs.Lines.{Basis, IsGood, fits_here, known, starts}
use Rattle.word_lowering.proofs.OperandLines.{value_type_by}
use Rattle.word_lowering.proofs.Related.{Both, body_of}
use Rattle.word_lowering.proofs.Settling.{LabelsLead}
use Rattle.word_lowering.proofs.ShapeFacts.{never, of_numbers}
use Rattle.word_lowering.proofs.Targets.{pointed, target}
use Rattle.word_lowering.proofs.ValueFacts.{location_of_numbers, type_in, has_type, look_of, numbers_there, with_home, IsPlain, PlainNames}
use Rattle.word_lowering.proofs.Scenes.{house, looked, of_value, of_location, IsNamed}
use Rattle.word_lowering.specs.declared.homes.Alias.TheVariants as alias
use Rattle.word_lowering.proofs.Sites.{IsTextual}
use Rattle.word_lowering.proofs.PartLines.{by_kind}
use Rattle.word_lowering.proofs.NamesIn.{names_from}

-- a text, a sequence or a ref
abbrev is_heap : TypeKind → Bool
is_heap k = is_text k || (is_sequence k || is_ref k)

declared_no_heap : (facts : Facts) (ty : Ty) → is_heap (declared_kind (fact_of facts ty)) ≡ true → ⊥
declared_no_heap facts ty h =
    never (sym (declared_other is_heap (λ n. refl) (λ own ts. refl) (λ t. refl) refl refl (fact_of facts ty)) ∙ h)

heap_shape : (facts : Facts) (ty : Ty) → is_heap (kind_of facts ty) ≡ true → of_numbers (shape_of facts ty) ≡ false
heap_shape facts type.int h = never h
heap_shape facts type.bool h = never h
heap_shape facts type.char h = never h
heap_shape facts type.text h = refl
heap_shape facts (type.sequence t) h = refl
heap_shape facts (type.array n t) h = never h
heap_shape facts (type.tuple names ts) h = never h
heap_shape facts (type.parameter n) h = never h
heap_shape facts (type.enum key) h = absurd (declared_no_heap facts (type.enum key) h)
heap_shape facts (type.object key arguments) h = absurd (declared_no_heap facts (type.object key arguments) h)
heap_shape facts (type.distinct key) h = absurd (declared_no_heap facts (type.distinct key) h)
heap_shape facts (type.ref name t) h = refl
heap_shape facts (type.exception key) h = absurd (declared_no_heap facts (type.exception key) h)

text_heap : (k : TypeKind) → is_text k ≡ true → is_heap k ≡ true
text_heap k h = subst (λ b. (b || (is_sequence k || is_ref k)) ≡ true) (sym h) refl

sequence_heap : (k : TypeKind) → is_sequence k ≡ true → is_heap k ≡ true
sequence_heap (kind.sequence t) h = refl
sequence_heap kind.int h = never h
sequence_heap kind.bool h = never h
sequence_heap kind.char h = never h
sequence_heap kind.text h = never h
sequence_heap (kind.enum n) h = never h
sequence_heap (kind.array n t) h = never h
sequence_heap (kind.tuple ts) h = never h
sequence_heap (kind.object own ts) h = never h
sequence_heap (kind.distinct t) h = never h
sequence_heap (kind.ref t) h = never h
sequence_heap kind.exception h = never h
sequence_heap kind.parameter h = never h
sequence_heap kind.other h = never h

resized_heap : (k : TypeKind) → is_resized k ≡ true → is_heap k ≡ true
resized_heap (kind.sequence t) h = refl
resized_heap kind.text h = refl
resized_heap kind.int h = never h
resized_heap kind.bool h = never h
resized_heap kind.char h = never h
resized_heap (kind.enum n) h = never h
resized_heap (kind.array n t) h = never h
resized_heap (kind.tuple ts) h = never h
resized_heap (kind.object own ts) h = never h
resized_heap (kind.distinct t) h = never h
resized_heap (kind.ref t) h = never h
resized_heap kind.exception h = never h
resized_heap kind.parameter h = never h
resized_heap kind.other h = never h

ref_heap : (k : TypeKind) (t : Ty) → is_of (Some t) (object_of k) ≡ true → is_heap k ≡ true
ref_heap (kind.ref u) t h = refl
ref_heap (kind.sequence u) t h = never h
ref_heap kind.text t h = never h
ref_heap kind.int t h = never h
ref_heap kind.bool t h = never h
ref_heap kind.char t h = never h
ref_heap (kind.enum n) t h = never h
ref_heap (kind.array n u) t h = never h
ref_heap (kind.tuple ts) t h = never h
ref_heap (kind.object own ts) t h = never h
ref_heap (kind.distinct u) t h = never h
ref_heap kind.exception t h = never h
ref_heap kind.parameter t h = never h
ref_heap kind.other t h = never h

a_ref : (k : TypeKind) → is_ref k ≡ true → is_heap k ≡ true
a_ref (kind.ref u) h = refl
a_ref (kind.sequence u) h = refl
a_ref kind.text h = refl
a_ref kind.int h = never h
a_ref kind.bool h = never h
a_ref kind.char h = never h
a_ref (kind.enum n) h = never h
a_ref (kind.array n u) h = never h
a_ref (kind.tuple ts) h = never h
a_ref (kind.object own ts) h = never h
a_ref (kind.distinct u) h = never h
a_ref kind.exception h = never h
a_ref kind.parameter h = never h
a_ref kind.other h = never h

-- a ref is no text
is_block : Shape → Bool
is_block block = true
is_block s = false

no_block : (facts : Facts) (ty : Ty) → is_ref (kind_of facts ty) ≡ true → shape_of facts ty ≡ block → ⊥
unfolding is_block
no_block facts (type.ref name t) h e = true≢false (sym (ap is_block e))
no_block facts type.int h e = never h
no_block facts type.bool h e = never h
no_block facts type.char h e = never h
no_block facts type.text h e = never h
no_block facts (type.sequence t) h e = never h
no_block facts (type.array n t) h e = never h
no_block facts (type.tuple names ts) h e = never h
no_block facts (type.parameter n) h e = never h
no_block facts (type.enum key) h e = declared_no_heap facts (type.enum key) (a_ref (kind_of facts (type.enum key)) h)
no_block facts (type.object key arguments) h e = declared_no_heap facts (type.object key arguments) (a_ref (kind_of facts (type.object key arguments)) h)
no_block facts (type.distinct key) h e = declared_no_heap facts (type.distinct key) (a_ref (kind_of facts (type.distinct key)) h)
no_block facts (type.exception key) h e = declared_no_heap facts (type.exception key) (a_ref (kind_of facts (type.exception key)) h)

module _ (x : Basis) (g : Both) (line : BlockLine) (rest : List BlockLine) (y : IsGood x (starts g line rest)) where
  location_heap : (t : ℕ) → IsPlain x g.call.site (of_location t) → is_heap (kind_if (facts_in x.table) (type_in x is_location (body_of g) t)) ≡ true → ⊥
  location_heap t plain k =
      let s = some_kind (facts_in x.table) (type_in x is_location (body_of g) t) is_heap refl k in
      let p = pointed x g line rest y t s.0 s.1 in
      true≢false (sym (location_of_numbers x g.call.site t y.linked.0 p.named plain) ∙ (ap of_numbers p.look ∙ heap_shape (facts_in x.table) s.0 s.2))

  -- no value is a ref
  value_ref : (t : ℕ) → IsPlain x g.call.site (of_value t) → is_ref (kind_if (facts_in x.table) (value_type x g line rest y t)) ≡ true → ⊥
  value_ref t plain k =
      let s = some_kind (facts_in x.table) (value_type x g line rest y t) is_ref refl k in
      let n = has_type x g.call.site (of_value t) s.0 y.linked.0 s.1 in
      let look = look_of x g.call.site (of_value t) s.0 n in
      by s.0 look s.2 n.named (y.linked.0.values t n.named)
    where
      by : (ty : Ty) → looked x.table g.call.site (of_value t) ≡ shape_of (facts_in x.table) ty → is_ref (kind_of (facts_in x.table) ty) ≡ true
          → IsNamed g.call.site (of_value t) → ((house g.call.site (of_value t)).alias ≡ alias.Own)
          ⊎ IsTextual x.table x.blocks (house g.call.site (of_value t)) → ⊥
      by ty look k named (inl own) =
          let h = numbers_there x g.call.site (of_value t) y.linked.0 (with_home x named own tt) (plain (with_home x named own tt)) in
          true≢false (sym h ∙ (ap of_numbers look ∙ heap_shape (facts_in x.table) ty (a_ref (kind_of (facts_in x.table) ty) k)))
      by ty look k named (inr text) = no_block (facts_in x.table) ty k (sym look ∙ text.look)

module _ (x : Basis) (labels : LabelsLead x) (g : Both) (rest : List BlockLine) (to : ℕ) (how : UseAt) where
  -- by the type of the value
  gets_heap : (operation : Operation) (ty : Option ℕ) (of : List (Option ℕ)) (from : List From)
      → PlainNames x g.call.site (of_value to ∷ names_from from) → (y : IsGood x (starts g (plain (L.Apply to operation how ty of from)) rest))
      → is_heap (kind_if (facts_in x.table) (if_type (known x).types ty)) ≡ true → ⊥
  gets_heap operation ty of from names y k =
      let line = plain (L.Apply to operation how ty of from) in
      let s = some_kind (facts_in x.table) (if_type (known x).types ty) is_heap refl k in
      let typed = value_type_by (value_type x g line rest y to) (if_type (known x).types ty) s.0
      (applies x g rest to operation how ty of from names y).given s.1 in
      let t = target x g line rest y to s.0 refl refl typed names.0 in
      true≢false (sym t.numbers ∙ heap_shape (facts_in x.table) s.0 s.2)

  -- by that of the first operand, which is a location
  takes_heap : (operation : Operation) (ty a : Option ℕ) (of : List (Option ℕ)) (t : ℕ) (from : List From)
      → PlainNames x g.call.site (of_value to ∷ of_location t ∷ names_from from) →
      (y : IsGood x (starts g (plain (L.Apply to operation how ty (a ∷ of) (F.Place t ∷ from))) rest))
      → is_heap (kind_if (facts_in x.table) (if_type (known x).types a)) ≡ true → ⊥
  takes_heap operation ty a of t from names y k =
      let line = plain (L.Apply to operation how ty (a ∷ of) (F.Place t ∷ from)) in
      let p = and_parts (same_value (type_in x is_location (body_of g) t) (if_type (known x).types a)) _
      (applies x g rest to operation how ty (a ∷ of) (F.Place t ∷ from) names y).typed in
      let v = same_type (type_in x is_location (body_of g) t) (if_type (known x).types a) p.0 in
      location_heap x g line rest y t names.1.0 (subst (λ o. is_heap (kind_if (facts_in x.table) o) ≡ true) (sym v) k)

  abbrev Row_here : Operation → Type 0
  Row_here operation = (ty : Option ℕ) (of : List (Option ℕ)) (from : List From) → RowHere x g rest to operation how ty of from

  abbrev kind_is : Option ℕ → TypeKind
  kind_is a = kind_if (facts_in x.table) (if_type (known x).types a)

  pub join_line : Row_here O.Join
  join_line ty (a ∷ b ∷ []) from names y = absurd (gets_heap O.Join ty (a ∷ b ∷ []) from names y
      (text_heap (kind_is ty) (and_parts (is_text (kind_is ty)) _ (applies x g rest to O.Join how ty (a ∷ b ∷ []) from names y).row).0))
  join_line ty [] from names y = never (applies x g rest to O.Join how ty [] from names y).row
  join_line ty (a ∷ []) from names y = never (applies x g rest to O.Join how ty (a ∷ []) from names y).row
  join_line ty (a ∷ b ∷ c ∷ of) from names y = never (applies x g rest to O.Join how ty (a ∷ b ∷ c ∷ of) from names y).row

  pub show_line : Row_here O.Show
  show_line ty (a ∷ []) from names y = absurd (gets_heap O.Show ty (a ∷ []) from names y
      (text_heap (kind_is ty) (and_parts (is_text (kind_is ty)) _ (applies x g rest to O.Show how ty (a ∷ []) from names y).row).0))
  show_line ty [] from names y = never (applies x g rest to O.Show how ty [] from names y).row
  show_line ty (a ∷ b ∷ of) from names y = never (applies x g rest to O.Show how ty (a ∷ b ∷ of) from names y).row

  pub sequence_line : Row_here O.Sequence
  sequence_line ty of from names y = absurd (gets_heap O.Sequence ty of from names y
      (sequence_heap (kind_is ty) (and_parts (is_sequence (kind_is ty)) _ (applies x g rest to O.Sequence how ty of from names y).row).0))

  pub new_sequence_line : Row_here O.NewSequence
  new_sequence_line ty (a ∷ []) from names y = absurd (gets_heap O.NewSequence ty (a ∷ []) from names y
      (sequence_heap (kind_is ty) (and_parts (is_sequence (kind_is ty)) _ (applies x g rest to O.NewSequence how ty (a ∷ []) from names y).row).0))
  new_sequence_line ty [] from names y = never (applies x g rest to O.NewSequence how ty [] from names y).row
  new_sequence_line ty (a ∷ b ∷ of) from names y = never (applies x g rest to O.NewSequence how ty (a ∷ b ∷ of) from names y).row

  pub read_line_line : Row_here O.ReadLine
  read_line_line ty [] from names y =
      absurd (gets_heap O.ReadLine ty [] from names y (text_heap (kind_is ty) (applies x g rest to O.ReadLine how ty [] from names y).row))
  read_line_line ty (a ∷ of) from names y = never (applies x g rest to O.ReadLine how ty (a ∷ of) from names y).row

  pub read_line_into_line : Row_here O.ReadLineInto
  read_line_into_line ty (a ∷ []) (F.Place t ∷ from) names y = absurd (takes_heap O.ReadLineInto ty a [] t from names y
      (text_heap (kind_is a) (and_parts (is_bool (kind_is ty)) (is_text (kind_is a))
      (applies x g rest to O.ReadLineInto how ty (a ∷ []) (F.Place t ∷ from) names y).row).1))
  read_line_into_line ty [] from names y = never (applies x g rest to O.ReadLineInto how ty [] from names y).row
  read_line_into_line ty (a ∷ b ∷ of) from names y = never (applies x g rest to O.ReadLineInto how ty (a ∷ b ∷ of) from names y).row
  read_line_into_line ty (a ∷ []) [] names y = never (applies x g rest to O.ReadLineInto how ty (a ∷ []) [] names y).typed
  read_line_into_line ty (a ∷ []) (F.Value t ∷ from) names y = never (applies x g rest to O.ReadLineInto how ty (a ∷ []) (F.Value t ∷ from) names y).placed

  pub add_line : Row_here O.Add
  add_line None (a ∷ b ∷ []) (F.Place t ∷ from) names y = absurd (takes_heap O.Add None a (b ∷ []) t from names y
      (sequence_heap (kind_is a) (and_parts (is_sequence (kind_is a)) _ (applies x g rest to O.Add how None (a ∷ b ∷ []) (F.Place t ∷ from) names y).row).0))
  add_line (Some ty) of from names y = never (applies x g rest to O.Add how (Some ty) of from names y).row
  add_line None [] from names y = never (applies x g rest to O.Add how None [] from names y).row
  add_line None (a ∷ []) from names y = never (applies x g rest to O.Add how None (a ∷ []) from names y).row
  add_line None (a ∷ b ∷ c ∷ of) from names y = never (applies x g rest to O.Add how None (a ∷ b ∷ c ∷ of) from names y).row
  add_line None (a ∷ b ∷ []) [] names y = never (applies x g rest to O.Add how None (a ∷ b ∷ []) [] names y).typed
  add_line None (a ∷ b ∷ []) (F.Value t ∷ from) names y = never (applies x g rest to O.Add how None (a ∷ b ∷ []) (F.Value t ∷ from) names y).placed

  pub append_line : Row_here O.Append
  append_line None (a ∷ b ∷ []) (F.Place t ∷ from) names y = absurd (takes_heap O.Append None a (b ∷ []) t from names y
      (text_heap (kind_is a) (and_parts (is_text (kind_is a)) _ (applies x g rest to O.Append how None (a ∷ b ∷ []) (F.Place t ∷ from) names y).row).0))
  append_line (Some ty) of from names y = never (applies x g rest to O.Append how (Some ty) of from names y).row
  append_line None [] from names y = never (applies x g rest to O.Append how None [] from names y).row
  append_line None (a ∷ []) from names y = never (applies x g rest to O.Append how None (a ∷ []) from names y).row
  append_line None (a ∷ b ∷ c ∷ of) from names y = never (applies x g rest to O.Append how None (a ∷ b ∷ c ∷ of) from names y).row
  append_line None (a ∷ b ∷ []) [] names y = never (applies x g rest to O.Append how None (a ∷ b ∷ []) [] names y).typed
  append_line None (a ∷ b ∷ []) (F.Value t ∷ from) names y = never (applies x g rest to O.Append how None (a ∷ b ∷ []) (F.Value t ∷ from) names y).placed

  pub set_length_line : Row_here O.SetLength
  set_length_line None (a ∷ b ∷ []) (F.Place t ∷ from) names y = absurd (takes_heap O.SetLength None a (b ∷ []) t from names y
      (resized_heap (kind_is a) (and_parts (is_resized (kind_is a)) _
      (applies x g rest to O.SetLength how None (a ∷ b ∷ []) (F.Place t ∷ from) names y).row).0))
  set_length_line (Some ty) of from names y = never (applies x g rest to O.SetLength how (Some ty) of from names y).row
  set_length_line None [] from names y = never (applies x g rest to O.SetLength how None [] from names y).row
  set_length_line None (a ∷ []) from names y = never (applies x g rest to O.SetLength how None (a ∷ []) from names y).row
  set_length_line None (a ∷ b ∷ c ∷ of) from names y = never (applies x g rest to O.SetLength how None (a ∷ b ∷ c ∷ of) from names y).row
  set_length_line None (a ∷ b ∷ []) [] names y = never (applies x g rest to O.SetLength how None (a ∷ b ∷ []) [] names y).typed
  set_length_line None (a ∷ b ∷ []) (F.Value t ∷ from) names y = never (applies x g rest to O.SetLength how None (a ∷ b ∷ []) (F.Value t ∷ from) names y).placed

  pub pop_line : Row_here O.Pop
  pop_line ty (a ∷ []) (F.Place t ∷ from) names y = absurd (takes_heap O.Pop ty a [] t from names y
      (sequence_heap (kind_is a) (and_parts (is_sequence (kind_is a)) _ (applies x g rest to O.Pop how ty (a ∷ []) (F.Place t ∷ from) names y).row).0))
  pop_line ty [] from names y = never (applies x g rest to O.Pop how ty [] from names y).row
  pop_line ty (a ∷ b ∷ of) from names y = never (applies x g rest to O.Pop how ty (a ∷ b ∷ of) from names y).row
  pop_line ty (a ∷ []) [] names y = never (applies x g rest to O.Pop how ty (a ∷ []) [] names y).typed
  pop_line ty (a ∷ []) (F.Value t ∷ from) names y = never (applies x g rest to O.Pop how ty (a ∷ []) (F.Value t ∷ from) names y).placed

  pub is_nil_line : Row_here O.IsNil
  is_nil_line ty (a ∷ []) (F.Value t ∷ from) names y =
      let line = plain (L.Apply to O.IsNil how ty (a ∷ []) (F.Value t ∷ from)) in
      let f = applies x g rest to O.IsNil how ty (a ∷ []) (F.Value t ∷ from) names y in
      let r = and_parts (is_bool (kind_is ty)) (is_ref (kind_is a)) f.row in
      let p = and_parts (same_value (value_type x g line rest y t) (if_type (known x).types a)) _ f.typed in
      let v = same_type (value_type x g line rest y t) (if_type (known x).types a) p.0 in
      absurd (value_ref x g line rest y t names.1.0 (subst (λ o. is_ref (kind_if (facts_in x.table) o) ≡ true) (sym v) r.1))
  is_nil_line ty [] from names y = never (applies x g rest to O.IsNil how ty [] from names y).row
  is_nil_line ty (a ∷ b ∷ of) from names y = never (applies x g rest to O.IsNil how ty (a ∷ b ∷ of) from names y).row
  is_nil_line ty (a ∷ []) [] names y = never (applies x g rest to O.IsNil how ty (a ∷ []) [] names y).typed
  is_nil_line ty (a ∷ []) (F.Place t ∷ from) names y = never (applies x g rest to O.IsNil how ty (a ∷ []) (F.Place t ∷ from) names y).placed

  -- objects with hooks of their own
  resource_taken : (operation : Operation) (a : Option ℕ) (t : ℕ) (from : List From)
      → PlainNames x g.call.site (of_value to ∷ of_location t ∷ names_from from) →
      (y : IsGood x (starts g (plain (L.Apply to operation how None (a ∷ []) (F.Place t ∷ from))) rest))
      → is_resource (kind_is a) ≡ true → ⊥
  resource_taken operation a t from names y k =
      let line = plain (L.Apply to operation how None (a ∷ []) (F.Place t ∷ from)) in
      let p = and_parts (same_value (type_in x is_location (body_of g) t) (if_type (known x).types a)) _
      (applies x g rest to operation how None (a ∷ []) (F.Place t ∷ from) names y).typed in
      let s = some_kind (facts_in x.table) (if_type (known x).types a) is_resource refl k in
      let is : type_in x is_location (body_of g) t ≡ Some s.0 = same_type (type_in x is_location (body_of g) t) (if_type (known x).types a) p.0 ∙ s.1 in
      let q = pointed x g line rest y t s.0 is in
      let n : ℕ = (house g.call.site (of_location t)).ty in
      let typed = has_type x g.call.site (of_location t) s.0 y.linked.0 is in
      let of_table : s.0 ≡ type_at (types_in x.table) n
      = sym typed.typed ∙ by_kind (house g.call.site (of_location t)).kind (type_at (types_in x.table) n) q.named.kind in
      true≢false (sym (location_of_numbers x g.call.site t y.linked.0 q.named names.1.0) ∙ (ap of_numbers (q.look ∙ ap (shape_of (facts_in x.table)) of_table)
      ∙ x.resources n (subst (λ u. is_resource (kind_of (facts_in x.table) u) ≡ true) of_table s.2)))

  pub destroy_line : Row_here O.Destroy
  destroy_line None (a ∷ []) (F.Place t ∷ from) names y =
      absurd (resource_taken O.Destroy a t from names y (applies x g rest to O.Destroy how None (a ∷ []) (F.Place t ∷ from) names y).row)
  destroy_line (Some ty) of from names y = never (applies x g rest to O.Destroy how (Some ty) of from names y).row
  destroy_line None [] from names y = never (applies x g rest to O.Destroy how None [] from names y).row
  destroy_line None (a ∷ b ∷ of) from names y = never (applies x g rest to O.Destroy how None (a ∷ b ∷ of) from names y).row
  destroy_line None (a ∷ []) [] names y = never (applies x g rest to O.Destroy how None (a ∷ []) [] names y).typed
  destroy_line None (a ∷ []) (F.Value t ∷ from) names y = never (applies x g rest to O.Destroy how None (a ∷ []) (F.Value t ∷ from) names y).placed

  pub unborn_line : Row_here O.Blank
  unborn_line None (a ∷ []) (F.Place t ∷ from) names y =
      absurd (resource_taken O.Blank a t from names y (applies x g rest to O.Blank how None (a ∷ []) (F.Place t ∷ from) names y).row)
  unborn_line (Some ty) of from names y = never (applies x g rest to O.Blank how (Some ty) of from names y).row
  unborn_line None [] from names y = never (applies x g rest to O.Blank how None [] from names y).row
  unborn_line None (a ∷ b ∷ of) from names y = never (applies x g rest to O.Blank how None (a ∷ b ∷ of) from names y).row
  unborn_line None (a ∷ []) [] names y = never (applies x g rest to O.Blank how None (a ∷ []) [] names y).typed
  unborn_line None (a ∷ []) (F.Value t ∷ from) names y = never (applies x g rest to O.Blank how None (a ∷ []) (F.Value t ∷ from) names y).placed

module _ (x : Basis) (labels : LabelsLead x) (g : Both) (rest : List BlockLine) (to from : ℕ) where
  pub object_line : FollowedHere x labels g rest (L.Object to from)
  object_line names y =
      let line = plain (L.Object to from) in
      let from_kind : TypeKind = kind_if (facts_in x.table) (type_in x is_location (body_of g) from) in
      let f = and_parts (is_of (type_in x is_location (body_of g) to) (object_of from_kind)) _ (fits_here x.table x.blocks (body_of g) line rest y.stands) in
      let v = are_of (type_in x is_location (body_of g) to) (object_of from_kind) f.0 in
      absurd (location_heap x g line rest y from names.1.0 (ref_heap from_kind v.ty (subst (λ o. is_of o (object_of from_kind) ≡ true) v.is f.0)))
