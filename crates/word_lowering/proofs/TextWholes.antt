-- Lines with texts, all of each: `echo`, labels of a `case`, and literals.
use Rattle.std.proofs.Common.{◌≡◌, ◌⊎◌, inl, inr, ℕ, List, [], ◌∷◌, Option, Some, None, Bool, true, false, refl, sym, ap, ap₂, subst, ◌∙◌, length, map}
use Rattle.std.specs.Prelude.{◌&&◌}
use Rattle.std.proofs.lemmas.Bool.{cases_Bool}
use Rattle.nim_types.specs.Forms.{form_of}
use Rattle.nim_types.specs.Table.{facts_in, type_at}
use Rattle.nim_types.specs.Types.{Ty}
use Rattle.nim_program.specs.declared.expr.Label.TheVariants as C
use Rattle.nim_program.specs.declared.operation.Operation.TheVariants as O
use Rattle.nim_program.specs.declared.operation.Use.{Use}
use Rattle.nim_program.specs.declared.operation.Use.TheVariants as uses
use Rattle.nim_meaning.specs.Deeds.{Answers, Deed, branch, costs, give, looks, perform, unless_gone, ◌>>=◌}
use Rattle.nim_meaning.specs.Here.{any_hooked, gives_hooked}
use Rattle.nim_meaning.specs.Lifted.{fresh_text}
use Rattle.nim_meaning.specs.OwnedRows.{owned}
use Rattle.nim_meaning.specs.Places.{kept_if, made_by}
use Rattle.nim_meaning.specs.Shapes.{is_held, waits}
use Rattle.nim_meaning.specs.Table.{constant_for, does}
use Rattle.nim_meaning.specs.Texts.{are_seen}
use Rattle.nim_meaning.specs.Values.{Fixed, Operand, Value}
use Rattle.flat_code.specs.declared.block.BlockLine.{BlockLine}
use Rattle.flat_code.specs.declared.line.From.{From}
use Rattle.flat_code.specs.declared.line.Line.TheVariants as L
use Rattle.flat_code.specs.declared.line.Piece.{Piece}
use Rattle.flat_code.specs.declared.line.Piece.TheVariants as P
use Rattle.flat_code.specs.declared.line.UseAt.{UseAt}
use Rattle.flat_code.specs.Codes.{block_does, block_plain}
use Rattle.flat_code.specs.Fits.{is_value}
use Rattle.flat_code.specs.Lines.{gives, traded, using_all, without_all}
use Rattle.flat_code.specs.Running.{scene_of}
use Rattle.flat_code.specs.Scene.{Did, Passes, with_value}
use Rattle.flat_code.specs.Shapes.{has_shape, shape_of}
use Rattle.word_lowering.specs.declared.homes.Alias.TheVariants as alias
use Rattle.word_lowering.specs.Aliases.{alias_by, is_read, text_alias, text_in, texts_of}
use Rattle.word_lowering.specs.LineCode.{value}
use Rattle.word_lowering.specs.Stored.{is_hooked}
use Rattle.word_lowering.specs.WaitingCode as code
use Rattle.word_lowering.proofs.ConstantFits.{constant_shape, constant_typed}
use Rattle.word_lowering.proofs.ApplyFits.{apply_line, of_types}
use Rattle.word_lowering.proofs.CaseTexts.{text_label_line}
use Rattle.word_lowering.proofs.ConstantWords.{named_or_own, read_text, text_named}
use Rattle.word_lowering.proofs.LentTexts.{lent_text}
use Rattle.word_lowering.proofs.Scenes.{house, of_value}
use Rattle.word_lowering.proofs.ControlLines.{plain}
use Rattle.word_lowering.proofs.EchoLines.{echo_line}
use Rattle.word_lowering.proofs.KeptCode.{value_waits}
use Rattle.word_lowering.proofs.Lines.{Basis, Completes, IsGood, Settles, bound_for, completes_quiet, known, starts, where_there, Whole}
use Rattle.word_lowering.proofs.MadeValues.{made_completes}
use Rattle.word_lowering.proofs.OperandTexts.{TextsBuilt}
use Rattle.word_lowering.proofs.OwnedFits.{fits_row}
use Rattle.word_lowering.proofs.PlainRows.{using_all_mapped}
use Rattle.word_lowering.proofs.Related.{Both, body_of, high}
use Rattle.word_lowering.proofs.RowSettles.{perform_on}
use Rattle.word_lowering.proofs.Settling.{LabelsLead}
use Rattle.word_lowering.proofs.ShapeFacts.{never, of_numbers}
use Rattle.word_lowering.proofs.Sites.{around}
use Rattle.word_lowering.proofs.TextConstants.{owned_text, text_look}
use Rattle.word_lowering.proofs.UsedValues.{used_there}
use Rattle.word_lowering.proofs.ValueFacts.{type_in}
use Rattle.word_lowering.proofs.WrittenLines.{Writing}

-- what is only read doesn't wait, and all else does where somebody holds it
read_quiet : (u : Use) → is_read u ≡ true → is_held u ≡ false
read_quiet uses.Lent h = refl
read_quiet uses.Looked h = refl
read_quiet uses.Owned h = never h
read_quiet uses.Given h = never h
read_quiet uses.Held h = never h

owned_waits : (u : Use) → is_read u ≡ false → is_held u ≡ waits u
owned_waits uses.Lent h = never (sym h)
owned_waits uses.Looked h = never (sym h)
owned_waits uses.Owned h = refl
owned_waits uses.Given h = refl
owned_waits uses.Held h = refl

-- nothing is handed over
no_trade : (from : List From) (any : Bool) → traded any O.Echo from ≡ []
no_trade from true = refl
no_trade from false = refl

and_false : (a b : Bool) → b ≡ false → (a && b) ≡ false
and_false true b h = h
and_false false b h = refl

module _ (x : Basis) (labels : LabelsLead x) (said : Writing x) (texts : TextsBuilt x) where
  module _ (g : Both) (rest : List BlockLine) (to : ℕ) (how : UseAt) (of : List (Option ℕ)) (from : List From) where
    abbrev echoing : BlockLine
    echoing = apply_line x g rest to O.Echo how None of from

    abbrev echoed : List Operand → Deed Value
    echoed xs = does O.Echo (facts_in x.table) None (of_types x g rest to O.Echo how None of from) xs

    abbrev gives_by : (there : Bool) → List Operand → Did
    gives_by there xs = gives (scene_of (high x.table x.blocks (starts g echoing rest))) to
        (costs 1 (unless_gone there (echoed xs)) >>= kept_if false (bound_for g how))

    abbrev does_by : (over : List From) → (any : Bool) → Did
    does_by over any = using_all g.call.temps from (λ xs. gives (without_all over (scene_of (high x.table x.blocks (starts g echoing rest)))) to
        (costs 1 (branch any (looks (λ world. unless_gone (are_seen world xs) (echoed xs))) (echoed xs)) >>= kept_if false (bound_for g how)))

    echo_by : IsGood x (starts g echoing rest) → (any : Bool) → Settles x (starts g echoing rest) rest (does_by [] any)
    echo_by y true =
        using_all_mapped x (starts g echoing rest) rest g.call.temps from (gives_by true) (λ xs. gives_by (are_seen g.world xs) xs)
        (λ xs s. where_there x (starts g echoing rest) rest (are_seen g.world xs) (λ b. gives_by b xs) (λ before. tt) (λ h. s))
        (echo_line x said texts g rest to how None of from y)
    echo_by y false = echo_line x said texts g rest to how None of from y

  pub echo_whole : (g : Both) (rest : List BlockLine) (to : ℕ) (how : UseAt) (ty : Option ℕ) (of : List (Option ℕ)) (from : List From)
      → Whole x g rest (plain (L.Apply to O.Echo how ty of from))
  echo_whole g rest to how (Some ty) of from y = never (fits_row x g rest to O.Echo how (Some ty) of from y).row
  echo_whole g rest to how None of from y =
      completes_quiet x g (apply_line x g rest to O.Echo how None of from) rest
      (block_does (known x) (scene_of (high x.table x.blocks (starts g (apply_line x g rest to O.Echo how None of from) rest)))
      (apply_line x g rest to O.Echo how None of from)) refl
      (subst (λ over. Settles x (starts g (echoing g rest to how of from) rest) rest (does_by g rest to how of from over
      (any_hooked (facts_in x.table) (of_types x g rest to O.Echo how None of from))))
      (sym (no_trade from (any_hooked (facts_in x.table) (of_types x g rest to O.Echo how None of from))))
      (echo_by g rest to how of from y (any_hooked (facts_in x.table) (of_types x g rest to O.Echo how None of from))))

  pub label_whole : (g : Both) (rest : List BlockLine) (from : ℕ) (text : List ℕ) (to : ℕ) → Whole x g rest (plain (L.Fits from (C.Text text) to))
  label_whole g rest from text to y =
      completes_quiet x g (plain (L.Fits from (C.Text text) to)) rest
      (block_does (known x) (scene_of (high x.table x.blocks (starts g (plain (L.Fits from (C.Text text) to)) rest))) (plain (L.Fits from (C.Text text) to)))
      refl (text_label_line x labels said texts g rest from text to y)

  -- ---- a literal

  module _ (g : Both) (rest : List BlockLine) (to : ℕ) (how : UseAt) (ty : ℕ) (text : List ℕ) where
    abbrev naming : BlockLine
    naming = plain (L.Constant to how ty (P.Text text ∷ []))

    abbrev to_type : Ty
    to_type = type_at (known x).types ty

    abbrev All : Type 0
    All = Completes x (starts g naming rest) rest (block_does (known x) (scene_of (high x.table x.blocks (starts g naming rest))) naming)

    read_whole : is_read how.how ≡ true → (y : IsGood x (starts g naming rest)) → All
    read_whole read y =
        completes_quiet x g naming rest (block_does (known x) (scene_of (high x.table x.blocks (starts g naming rest))) naming)
        (and_false (is_hooked x.table ty) (is_held how.how) (read_quiet how.how read))
        (read_text x labels g rest to how ty text y read (named (named_or_own x labels g rest to how ty text y read))
        (gives_hooked (facts_in x.table) (Some to_type)))
      where
        named : ((house g.call.site (of_value to)).alias ≡ alias.Own)
            ⊎ ((house g.call.site (of_value to)).alias ≡ alias.Text (length (texts_of (map block_plain rest))) (length text))
            → Settles x (starts g naming rest) rest (Passes (Answers [] 1 (with_value to g.call.temps (Fixed text)) g.world))
        named (inl own) = lent_text x said texts g rest to how ty text y read own
        named (inr name) = text_named x labels g rest to how ty text y read name

    abbrev Made : Bool → Type 0
    Made b = Completes x (starts g naming rest) rest (gives (scene_of (high x.table x.blocks (starts g naming rest))) to
        (costs 1 (constant_for b (form_of (facts_in x.table) to_type) 0 (Fixed text)) >>= made_by b (bound_for g how)))

    owned_whole : is_read how.how ≡ false → (y : IsGood x (starts g naming rest)) → All
    owned_whole owned y = subst Made (sym hooks) (subst (λ done. Completes x (starts g naming rest) rest (Passes done)) (same how.how owned) made)
      where
        fits_so : has_shape (Fixed text) (shape_of (facts_in x.table) to_type) ≡ true
        fits_so = (constant_shape x g rest to how ty (P.Text text ∷ []) y).shaped

        typed : type_in x is_value (body_of g) to ≡ Some to_type
        typed = constant_typed x g rest to how ty (P.Text text ∷ []) y

        hooks : gives_hooked (facts_in x.table) (Some to_type) ≡ true
        hooks = by (cases_Bool (is_hooked x.table ty))
          where
            by : (is_hooked x.table ty ≡ true) ⊎ (is_hooked x.table ty ≡ false) → gives_hooked (facts_in x.table) (Some to_type) ≡ true
            by (inl h) = sym (x.hooks ty) ∙ h
            by (inr h) = never (sym (ap of_numbers (text_look (shape_of (facts_in x.table) to_type) text fits_so)) ∙ x.plains ty h)

        same : (u : Use) → is_read u ≡ false
            → perform ((costs 1 (fresh_text text) >>= kept_if true (record { how = u; level = g.call.site.level; node = how.node }))
            >>= (λ v. give (with_value to g.call.temps v))) g.world
            ≡ perform ((costs 1 (constant_for true (form_of (facts_in x.table) to_type) 0 (Fixed text))
            >>= made_by true (record { how = u; level = g.call.site.level; node = how.node })) >>= (λ v. give (with_value to g.call.temps v))) g.world
        same uses.Lent h = never (sym h)
        same uses.Looked h = never (sym h)
        same uses.Owned h = refl
        same uses.Given h = refl
        same uses.Held h = refl

        own : alias_by (L.Constant to how ty (P.Text text ∷ [])) (length (texts_of (map block_plain rest))) ≡ alias.Own
        own = ap (λ b. text_alias b (length (texts_of (map block_plain rest))) (Some text)) owned

        waiting : value_waits x.table (L.Constant to how ty (P.Text text ∷ [])) ≡ (true && waits how.how)
        waiting = ap₂ (λ a b. a && b) (x.hooks ty ∙ hooks) (owned_waits how.how owned)

        made : Completes x (starts g naming rest) rest (Passes (perform ((costs 1 (fresh_text text) >>= kept_if true (bound_for g how))
            >>= (λ v. give (with_value to g.call.temps v))) g.world))
        made =
            made_completes x g naming rest y g.call.temps to how true waiting
            (λ b k. ap (λ c. code.kept_if x.table b.own.waiters (value (around x.table x.blocks b)) c how.node to k) waiting)
            (λ h w. used_there x g naming rest y (is_held how.how) to how ty refl refl own typed hooks (owned_waits how.how owned ∙ w))
            (costs 1 (fresh_text text))
            (subst (λ done. Settles x (starts g naming rest) rest (Passes done))
            (perform_on (costs 1 (fresh_text text)) (λ v. give v) (λ v. give (with_value to g.call.temps v)) g.world)
            (owned_text x said texts g rest to how ty text owned y))

    pub text_whole : Whole x g rest (plain (L.Constant to how ty (P.Text text ∷ [])))
    text_whole y = by (is_read how.how) refl
      where
        by : (b : Bool) → is_read how.how ≡ b → All
        by true e = read_whole e y
        by false e = owned_whole e y

  -- the same, of what may be anything else
  pub literal_whole : (g : Both) (rest : List BlockLine) (to : ℕ) (how : UseAt) (ty : ℕ) (pieces : List Piece) (text : List ℕ)
      → text_in pieces ≡ Some text → Whole x g rest (plain (L.Constant to how ty pieces))
  literal_whole g rest to how ty (P.Text t ∷ []) text e = text_whole g rest to how ty t
  literal_whole g rest to how ty pieces text e = none_given text e
    where
      none_given : {A : Type 0} (text : List ℕ) → None ≡ Some text → A
      none_given text e = absurd cc
