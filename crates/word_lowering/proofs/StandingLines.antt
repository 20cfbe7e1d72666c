-- Lines that lead to a constant, which stands in the data.
use Rattle.std.proofs.Common.{inl, inr, ◌≡◌, ℕ, ◌+◌, ◌<◌, ◌^◌, List, [], ◌∷◌, map, Some, Bool, true, false, refl, sym, ap, ap₂, subst, ◌∙◌, arith}
use Rattle.std.specs.Prelude.{◌&&◌, not, if◌then◌else◌}
use Rattle.std.specs.Set.{is_member}
use Rattle.std.proofs.lemmas.Bool.{and_parts}
use Rattle.nim_types.specs.Table.{type_at, facts_in}
use Rattle.nim_types.specs.Types.{Ty, same_text}
use Rattle.nim_meaning.specs.Values.{Fixed, Location, Made}
use Rattle.nim_meaning.specs.Places.{root_of}
use Rattle.nim_program.specs.Kinds.{is_of}
use Rattle.flat_code.specs.declared.block.BlockLine.{BlockLine}
use Rattle.flat_code.specs.declared.line.Line.TheVariants as L
use Rattle.flat_code.specs.declared.line.Piece.{Piece}
use Rattle.flat_code.specs.declared.line.Piece.TheVariants as P
use Rattle.flat_code.specs.Codes.{block_plain, block_does}
use Rattle.flat_code.specs.Fits.{if_kind, is_location, is_standing, place_named}
use Rattle.flat_code.specs.Pieces.{has_links, is_linked, is_one_text, value_of, standing_bytes}
use Rattle.flat_code.specs.Running.{scene_of}
use Rattle.flat_code.specs.Scene.{Located}
use Rattle.flat_code.specs.Shapes.{Shape, block, shape_of}
use Rattle.flat_code.specs.Sizes.{pieces_texts, lines_texts, texts_in as line_texts}
use Rattle.word_code.specs.declared.word.WordInstr.{WordInstr}
use Rattle.word_code.specs.declared.word.WordInstr.TheVariants.{Datum}
use Rattle.word_code.specs.Words.{put}
use Rattle.word_code.proofs.ForCallers.{Runs, at, run_datum}
use Rattle.word_lowering.specs.declared.homes.Alias.TheVariants as alias
use Rattle.word_lowering.specs.LineCode.{variable_of, standing_at}
use Rattle.word_lowering.specs.Lowered.{data_at}
use Rattle.word_lowering.specs.Texts.{constant_place, linked_place, standing_place}
use Rattle.word_lowering.proofs.BlankShapes.{of_handles}
use Rattle.word_lowering.proofs.ConstantFits.{FitsShape, constant_fits, numbers_pieces}
use Rattle.word_lowering.proofs.ControlLines.{plain}
use Rattle.word_lowering.proofs.ConstantWords.{text_among}
use Rattle.word_lowering.proofs.FixedValues.{FixedAt}
use Rattle.word_lowering.proofs.HookedMoves.{BitsHere}
use Rattle.word_lowering.proofs.LineFits.{are_of}
use Rattle.word_lowering.proofs.Lines.{Basis, IsGood, Settles, all_procs, fits_here, known, starts, texts_laid}
use Rattle.word_lowering.proofs.LinkedFixed.{AtFirst, fixed_now, stands_linked, text_fixed}
use Rattle.word_lowering.proofs.LinkedItems.{HaveConstant, constant_here}
use Rattle.word_lowering.proofs.LiteralHandles.{handle_near}
use Rattle.word_lowering.proofs.OperationRuns.{Given}
use Rattle.word_lowering.proofs.OperandTexts.{TextsBuilt}
use Rattle.word_lowering.proofs.Options.{some_same}
use Rattle.word_lowering.proofs.Moves.{all_same}
use Rattle.word_lowering.proofs.OrdinalRuns.{but_one, put_here}
use Rattle.word_lowering.proofs.PartLines.{leads_settles, led_home, led_variable, own_location}
use Rattle.word_lowering.proofs.ReadFacts.{data_near}
use Rattle.word_lowering.proofs.Related.{Both, body_of, high, within}
use Rattle.word_lowering.proofs.Scenes.{FromData, IsNamed, IsThere, handle_from, house, linked_from, looked, of_location, standing_from}
use Rattle.word_lowering.proofs.Settling.{LabelsLead, code_here, code_next}
use Rattle.word_lowering.proofs.ShapeFacts.{never, shape_bytes}
use Rattle.word_lowering.proofs.Sites.{around, laid_from, lines_of}
use Rattle.word_lowering.proofs.Targets.{location_alias, own_alias, pointed}
use Rattle.word_lowering.proofs.TextConstants.{text_look}
use Rattle.word_lowering.proofs.ValueFacts.{type_in, with_home}

both_not : (b : Bool) → not b ≡ true → b ≡ true → {A : Type 0} → A
both_not true h e = never h
both_not false h e = never e

module _ (x : Basis) (labels : LabelsLead x) (texts : TextsBuilt x) (g : Both) (rest : List BlockLine) (to ty : ℕ) where
  abbrev standing_here : List Piece → BlockLine
  standing_here pieces = plain (L.Standing to ty pieces)

  abbrev Leads_to : List Piece → Type 0
  Leads_to pieces = BitsHere x g rest (standing_here pieces)

  module _ (pieces : List Piece) (y : IsGood x (starts g (standing_here pieces) rest)) where
    abbrev line : BlockLine
    line = standing_here pieces

    abbrev location_is : Location
    location_is = root_of (Made (value_of pieces)) g.world

    abbrev own_ty : Ty
    own_ty = type_at (known x).types ty

    abbrev may : Bool
    may = if_kind is_standing (place_named is_location (body_of g).proc.places to)

    record Fitting : Type 0 where
      shape : FitsShape (looked x.table g.call.site (of_location to)) pieces
      named : IsNamed g.call.site (of_location to)
      there_to : IsThere g.call.site (of_location to)
      read_only : not may ≡ true

    fitting : Fitting
    fitting =
        let f = constant_fits (shape_of (facts_in x.table) own_ty) pieces _ (fits_here x.table x.blocks (body_of g) line rest y.stands) in
        let p = and_parts (is_of (type_in x is_location (body_of g) to) (Some own_ty)) _ f.1 in
        let v = are_of (type_in x is_location (body_of g) to) (Some own_ty) p.0 in
        let q = pointed x g line rest y to v.ty v.is in
        let look : shape_of (facts_in x.table) own_ty ≡ looked x.table g.call.site (of_location to)
        = ap (shape_of (facts_in x.table)) (some_same own_ty v.ty v.is_other) ∙ sym q.look in
        record {
          shape = subst (λ s. FitsShape s pieces) look f.0;
          named = q.named;
          there_to = with_home x q.named
              (own_alias (house g.call.site (of_location to)).alias (location_alias x g line rest y to alias.Own refl refl)) tt;
          read_only = p.1;
        }

    handles : of_handles (looked x.table g.call.site (of_location to)) ≡ true
    handles = y.linked.0.handles (house g.call.site (of_location to)) fitting.there_to.among

    -- the first text of the line is one of its procedure's
    among_here : (text : List ℕ) (more : List (List ℕ)) → line_texts (block_plain line) ≡ text ∷ more
        → is_member same_text (lines_texts (lines_of (body_of g))) text ≡ true
    among_here text more first =
        ap (λ l. is_member same_text (lines_texts (map block_plain l)) text) y.stands.whole ∙ text_among line text more first y.stands.before rest

    -- the address comes to the variable
    comes : (a : ℕ) → data_at + standing_at (around x.table x.blocks (body_of g)) pieces ≡ a → a < 2 ^ 32
        → Given x.live (all_procs x) (within x.table x.blocks g) g.memory g.words (code_here x g line rest y) g.call.vars
        (led_variable x g line rest y to) a (code_next x g line rest y)
    comes a is near =
        let k : List WordInstr = code_next x g line rest y in
        let t : ℕ = led_variable x g line rest y to in
        let n : ℕ = standing_at (around x.table x.blocks (body_of g)) pieces in
        let h = led_home x g line rest y to fitting.there_to in
        let code : Datum t n ∷ k ≡ code_here x g line rest y = sym (ap (λ u. Datum (variable_of u) n ∷ k) (own_location x g line rest y to fitting.there_to)) in
        subst (λ l. Given x.live (all_procs x) (within x.table x.blocks g) g.memory g.words l g.call.vars t a k) code (record {
          steps = 1;
          some = omega arith;
          few = omega arith;
          gives = record {
            vars = put g.call.vars t a;
            given = put_here g.call.vars t a near;
            but = but_one g.call.vars g.call.vars t a h.high_is (all_same g.call.vars);
            runs = subst (λ r. Runs x.live (all_procs x) 1 (at (within x.table x.blocks g) g.memory (Datum t n ∷ k) g.call.vars g.words)
                (at (within x.table x.blocks g) g.memory k (put g.call.vars t r) g.words)) (omega (arith, is))
                (run_datum x.live (all_procs x) (within x.table x.blocks g) g.memory k g.call.vars g.words t n);
          };
        })

    leads_there : (a : ℕ) → data_at + standing_at (around x.table x.blocks (body_of g)) pieces ≡ a
        → FromData x.table x.blocks g.ground location_is a (looked x.table g.call.site (of_location to))
        → Settles x (starts g line rest) rest (block_does (known x) (scene_of (high x.table x.blocks (starts g line rest))) line)
    leads_there a is from =
        let near = data_near x g.ground location_is a (looked x.table g.call.site (of_location to)) from in
        leads_settles x g line rest y to (Located location_is) a 1 (omega arith) fitting.there_to
        (λ st. both_not may fitting.read_only (y.linked.0.may_be_standing to st)) (inl (inr (inl from))) (comes a is (omega (arith, near)))

    -- where it stands by its bytes
    abbrev place_by : Bool → ℕ
    place_by links = if links then linked_place (laid_from x.table x.blocks) x.blocks.procs pieces
        else constant_place (laid_from x.table x.blocks) x.blocks.procs pieces

    -- of numbers, or with texts or sequences inside
    other_line : is_one_text pieces ≡ false → standing_place (laid_from x.table x.blocks) x.blocks.procs pieces ≡ place_by (has_links pieces)
        → Settles x (starts g line rest) rest (block_does (known x) (scene_of (high x.table x.blocks (starts g line rest))) line)
    other_line one place = by (has_links pieces) refl
      where
        at : (b : Bool) → has_links pieces ≡ b → data_at + standing_at (around x.table x.blocks (body_of g)) pieces
            ≡ data_at + ((around x.table x.blocks (body_of g)).setting.texts + place_by b)
        at b e = ap (λ n. data_at + ((around x.table x.blocks (body_of g)).setting.texts + n)) (place ∙ ap place_by e)

        by : (b : Bool) → has_links pieces ≡ b
            → Settles x (starts g line rest) rest (block_does (known x) (scene_of (high x.table x.blocks (starts g line rest))) line)
        by false e =
            let f = fitting in
            leads_there (standing_from x.table x.blocks pieces) (at false e) (inl (record {
              pieces = pieces;
              plain = e;
              one = f.shape.one;
              among = y.linked.0.texts.among (standing_bytes pieces)
                  (among_here (standing_bytes pieces) [] (ap (λ b. if b then pieces_texts pieces else standing_bytes pieces ∷ []) e));
              base = refl;
              shape = looked x.table g.call.site (of_location to);
              shaped = f.shape.shaped;
              numbers = numbers_pieces (looked x.table g.call.site (of_location to)) pieces handles e f.shape;
              offset = 0;
              path = (refl, refl);
              address = omega arith;
            }))
        by true e =
            let here = subst (λ l. HaveConstant (map block_plain l) pieces) (sym y.stands.whole) (constant_here y.stands.before line rest pieces refl) in
            let links : is_linked pieces ≡ true = ap₂ (λ a b. not a && b) one e in
            let stands = stands_linked x texts pieces (looked x.table g.call.site (of_location to)) (y.linked.0.texts.constants pieces here) links
            fitting.shape handles in
            leads_there (linked_from x.table x.blocks pieces) (at true e) (inr (record {
              value = value_of pieces;
              base = refl;
              stands = fixed_now x texts (starts g line rest) y (linked_from x.table x.blocks pieces) (looked x.table g.call.site (of_location to))
                  (value_of pieces) stands.fixed;
              near = stands.near;
            }))

  -- a text, by its handle
  text_line : (text : List ℕ) → Leads_to (P.Text text ∷ [])
  text_line text y =
      let pieces = P.Text text ∷ [] in
      let s : Shape = looked x.table g.call.site (of_location to) in
      let among : is_member same_text (lines_texts (lines_of (body_of g))) text ≡ true = among_here pieces y text [] refl in
      let laid = texts_laid x text (y.linked.0.texts.among text among) in
      let look : s ≡ block = text_look s text (fitting pieces y).shape.shaped in
      let size = ap shape_bytes look in
      let near = handle_near x text (texts.letters (body_of g) y.linked.0 text among) (y.linked.0.texts.among text among) in
      leads_there pieces y (handle_from x.table x.blocks text) refl (inr (record {
        value = Fixed text;
        base = refl;
        stands = fixed_now x texts (starts g (standing_here pieces) rest) y (handle_from x.table x.blocks text) s (Fixed text)
            (subst (λ t. FixedAt (AtFirst x texts) (handle_from x.table x.blocks text) t (Fixed text)) (sym look) (text_fixed x texts text laid));
        near = omega (arith, size, near);
      }))

  pub standing_line : (pieces : List Piece) → Leads_to pieces
  standing_line (P.Text text ∷ []) y = text_line text y
  standing_line [] y = other_line [] y refl refl
  standing_line (P.Text text ∷ q ∷ ps) y = other_line (P.Text text ∷ q ∷ ps) y refl refl
  standing_line (P.Ordinal z ∷ ps) y = other_line (P.Ordinal z ∷ ps) y refl refl
  standing_line (P.Nil ∷ ps) y = other_line (P.Nil ∷ ps) y refl refl
  standing_line (P.Parts n ∷ ps) y = other_line (P.Parts n ∷ ps) y refl refl
  standing_line (P.Elements n ∷ ps) y = other_line (P.Elements n ∷ ps) y refl refl
