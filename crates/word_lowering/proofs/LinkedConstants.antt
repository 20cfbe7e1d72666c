-- A temporary gets a constant with texts or sequences inside: a copy of what stands in the data, which is handed on then, or waits where it is used.
use Rattle.std.proofs.Common.{◌≡◌, ℕ, ◌+◌, ◌^◌, ◌<◌, List, [], ◌∷◌, map, Some, None, Bool, true, false, refl, sym, ap, ap₂, subst, ◌∙◌}
use Rattle.std.specs.Prelude.{◌&&◌, if◌then◌else◌, not}
use Rattle.std.proofs.lemmas.Bool.{and_parts}
use Rattle.nim_types.specs.Forms.{Form}
use Rattle.nim_types.specs.Table.{facts_in, type_at, types_in}
use Rattle.nim_types.specs.Types.{Ty}
use Rattle.nim_program.specs.declared.operation.Use.{Use}
use Rattle.nim_meaning.specs.Deeds.{Answers, Deed, Done, Fails, Finishes, behind, costs, give, perform, ◌>>=◌}
use Rattle.nim_meaning.specs.Here.{gives_hooked}
use Rattle.nim_meaning.specs.Lifted.{copied}
use Rattle.nim_meaning.specs.Places.{Destination, kept_if, made_by}
use Rattle.nim_meaning.specs.Shapes.{waits}
use Rattle.nim_meaning.specs.State.{World}
use Rattle.nim_meaning.specs.Table.{constant_for}
use Rattle.nim_meaning.specs.Values.{Value, Number, Parts, Handle, Fixed, Ref, Resource, Gone, Vacant, Made, at_base}
use Rattle.flat_code.specs.declared.block.BlockLine.{BlockLine}
use Rattle.flat_code.specs.declared.code.CodeProc.{CodeProc}
use Rattle.flat_code.specs.declared.line.Line.TheVariants as L
use Rattle.flat_code.specs.declared.line.Piece.{Piece}
use Rattle.flat_code.specs.declared.line.Piece.TheVariants as P
use Rattle.flat_code.specs.declared.line.UseAt.{UseAt}
use Rattle.flat_code.specs.Codes.{block_does, block_plain}
use Rattle.flat_code.specs.Fits.{is_value}
use Rattle.flat_code.specs.Lines.{form_in, gives}
use Rattle.flat_code.specs.Pieces.{has_links, is_linked, is_one_text, pieces_bytes, value_of}
use Rattle.flat_code.specs.Running.{scene_of}
use Rattle.flat_code.specs.Scene.{Passes, known_in, with_value}
use Rattle.flat_code.specs.Shapes.{Shape, shape_of}
use Rattle.flat_code.specs.Waits.{constant_waits}
use Rattle.hook_lifting.specs.declared.lifted.Hook.TheVariants.{Copies}
use Rattle.word_lowering.specs.declared.homes.Alias.TheVariants as alias
use Rattle.word_lowering.specs.declared.homes.Home.TheVariants.{Static}
use Rattle.word_lowering.specs.Aliases.{alias_by, is_read, text_alias, text_in}
use Rattle.word_lowering.specs.LineCode.{constant_by, hook_code, standing_at, value}
use Rattle.word_lowering.specs.Lowered.{data_at}
use Rattle.word_lowering.specs.Stored.{is_hooked}
use Rattle.word_lowering.specs.Texts.{constant_place, linked_place, standing_place, texts_at}
use Rattle.word_lowering.specs.WaitingCode as code
use Rattle.word_lowering.proofs.BlankShapes.{of_handles}
use Rattle.word_lowering.proofs.Blocks.{Stored}
use Rattle.word_lowering.proofs.ConstantFits.{FitsShape, linked_pieces, constant_shape, constant_typed, no_block, no_text, no_text_stored}
use Rattle.word_lowering.proofs.ControlLines.{plain}
use Rattle.word_lowering.proofs.FixedValues.{FixedAt}
use Rattle.word_lowering.proofs.HeapWanted.{followed, perform_then}
use Rattle.word_lowering.proofs.HookBasis.{HookBasis}
use Rattle.word_lowering.proofs.HookCalls.{IsArgument}
use Rattle.word_lowering.proofs.HookedHere.{hooked_named}
use Rattle.word_lowering.proofs.HookedLines.{copy_from, state, state_good, stored_from, to_look, to_there}
use Rattle.word_lowering.proofs.HookedSources.{linked_argument}
use Rattle.word_lowering.proofs.HookedTypes.{HookedType}
use Rattle.word_lowering.proofs.KeptCode.{value_waits}
use Rattle.word_lowering.proofs.Lines.{Basis, Completes, IsGood, bound_for, known, starts}
use Rattle.word_lowering.proofs.LinkedFixed.{StandsLinked, fixed_now, stands_linked}
use Rattle.word_lowering.proofs.LinkedItems.{HaveConstant, constant_here}
use Rattle.word_lowering.proofs.MadeValues.{made_completes}
use Rattle.word_lowering.proofs.OperandTexts.{TextsBuilt}
use Rattle.word_lowering.proofs.Options.{none_some}
use Rattle.word_lowering.proofs.Related.{Both, body_of, high}
use Rattle.word_lowering.proofs.RowSettles.{perform_on}
use Rattle.word_lowering.proofs.Scenes.{house, is_fixed, linked_from, of_value}
use Rattle.word_lowering.proofs.Settling.{code_here, code_next}
use Rattle.word_lowering.proofs.ShapeFacts.{never, shape_bytes}
use Rattle.word_lowering.proofs.Sites.{around, data_end, laid_from}
use Rattle.word_lowering.proofs.Targets.{texts_behind}
use Rattle.word_lowering.proofs.UsedValues.{used_there}
use Rattle.word_lowering.proofs.ValueFacts.{type_in}

-- ---- what isn't a text

-- it is a copy
copied_constant : (f : Form) (n : ℕ) (v : Value) → ((text : List ℕ) → v ≡ Fixed text → ⊥) → constant_for true f n v ≡ copied f (at_base (Made v))
copied_constant f n (Fixed text) other = absurd (other text refl)
copied_constant f n (Number z) other = refl
copied_constant f n (Parts vs) other = refl
copied_constant f n (Handle long k) other = refl
copied_constant f n (Ref object) other = refl
copied_constant f n (Resource vs i) other = refl
copied_constant f n (Gone v final) other = refl
copied_constant f n Vacant other = refl

-- and is handed on, or waits
kept_made : (to : Destination) (v : Value) → ((text : List ℕ) → v ≡ Fixed text → ⊥) → kept_if true to v ≡ made_by true to v
kept_made to (Fixed text) other = absurd (other text refl)
kept_made to (Number z) other = refl
kept_made to (Parts vs) other = refl
kept_made to (Handle long k) other = refl
kept_made to (Ref object) other = refl
kept_made to (Resource vs i) other = refl
kept_made to (Gone v final) other = refl
kept_made to Vacant other = refl

waits_as : (pieces : List Piece) (how : Use) → text_in pieces ≡ None → constant_waits pieces how ≡ waits how
waits_as [] how other = refl
waits_as (P.Text text ∷ []) how other = absurd (none_some text (sym other))
waits_as (P.Text text ∷ p ∷ pieces) how other = refl
waits_as (P.Ordinal z ∷ pieces) how other = refl
waits_as (P.Nil ∷ pieces) how other = refl
waits_as (P.Parts n ∷ pieces) how other = refl
waits_as (P.Elements n ∷ pieces) how other = refl

-- where no answer is a text
module _ {A B : Type 0} (d : Deed A) (w : World) (j k : A → Deed B) where
  abbrev Same : Done A → Type 0
  Same (Answers es n v after) = perform (j v) after ≡ perform (k v) after
  Same done = Unit {0}

  pub same_answers : Same (perform d w) → perform (d >>= j) w ≡ perform (d >>= k) w
  same_answers same = perform_then j d w ∙ by (perform d w) same ∙ sym (perform_then k d w)
    where
      by : (done : Done A) → Same done → followed j done ≡ followed k done
      by (Answers es n v after) e = ap (behind es n) e
      by (Finishes es n status after) e = refl
      by (Fails es n after) e = refl

-- ---- the line

by_links : (from : ℕ) (procs : List (CodeProc BlockLine)) (pieces : List Piece) → has_links pieces ≡ true
    → (if has_links pieces then linked_place from procs pieces else constant_place from procs pieces) ≡ linked_place from procs pieces
by_links from procs pieces links = ap (λ l. if l then linked_place from procs pieces else constant_place from procs pieces) links

-- where it stands
standing_linked : (from : ℕ) (procs : List (CodeProc BlockLine)) (pieces : List Piece) → text_in pieces ≡ None → has_links pieces ≡ true
    → standing_place from procs pieces ≡ linked_place from procs pieces
standing_linked from procs [] other links = never links
standing_linked from procs (P.Text text ∷ []) other links = absurd (none_some text (sym other))
standing_linked from procs (P.Text text ∷ p ∷ pieces) other links = refl
standing_linked from procs (P.Ordinal z ∷ pieces) other links = by_links from procs (P.Ordinal z ∷ pieces) links
standing_linked from procs (P.Nil ∷ pieces) other links = by_links from procs (P.Nil ∷ pieces) links
standing_linked from procs (P.Parts n ∷ pieces) other links = by_links from procs (P.Parts n ∷ pieces) links
standing_linked from procs (P.Elements n ∷ pieces) other links = refl

module _ (x : Basis) (b : HookBasis x) (built : TextsBuilt x) (g : Both) (rest : List BlockLine) (to : ℕ) (how : UseAt) (ty : ℕ) (pieces : List Piece) where
  abbrev naming : BlockLine
  naming = plain (L.Constant to how ty pieces)

  abbrev to_type : Ty
  to_type = type_at (types_in x.table) ty

  abbrev look : Shape
  look = shape_of (facts_in x.table) to_type

  abbrev v : Value
  v = value_of pieces

  abbrev form : Form
  form = form_in (known_in x.table) ty

  -- where it stands in the data
  abbrev place : ℕ
  place = standing_at (around x.table x.blocks (body_of g)) pieces

  module _ (y : IsGood x (starts g naming rest)) (other : text_in pieces ≡ None) (hooks : gives_hooked (facts_in x.table) (Some to_type) ≡ true) where
    fits_so : FitsShape look pieces
    fits_so = constant_shape x g rest to how ty pieces y

    typed : type_in x is_value (body_of g) to ≡ Some to_type
    typed = constant_typed x g rest to how ty pieces y

    hooked : is_hooked x.table ty ≡ true
    hooked = x.hooks ty ∙ hooks

    type_hooked : HookedType x ty
    type_hooked = hooked_named x g.call.site y.linked.0 (of_value to) ty typed hooked

    own : alias_by (L.Constant to how ty pieces) (texts_behind x g naming rest y) ≡ alias.Own
    own = ap (text_alias (is_read how.how) (texts_behind x g naming rest y)) other

    handles : of_handles look ≡ true
    handles =
        sym (ap of_handles (to_look x b g naming rest y ty type_hooked to refl own typed))
        ∙ y.linked.0.handles (house g.call.site (of_value to)) (to_there x b g naming rest y ty type_hooked to refl own typed).among

    links : is_linked pieces ≡ true
    links = linked_pieces look pieces type_hooked.numbers handles fits_so other

    there : StandsLinked x built pieces look
    there =
        stands_linked x built pieces look
        (y.linked.0.texts.constants pieces
        (subst (λ l. HaveConstant (map block_plain l) pieces) (sym y.stands.whole) (constant_here y.stands.before naming rest pieces refl)))
        links fits_so handles

    place_is : linked_from x.table x.blocks pieces ≡ data_at + place
    place_is =
        ap (λ n. data_at + (texts_at x.table (data_end x.table x.blocks) + n))
        (sym (standing_linked (laid_from x.table x.blocks) x.blocks.procs pieces other (and_parts (not (is_one_text pieces)) (has_links pieces) links).1))

    stands : FixedAt (is_fixed g.ground) (data_at + place) look v
    stands = subst (λ a. FixedAt (is_fixed g.ground) a look v) place_is (fixed_now x built (starts g naming rest) y (linked_from x.table x.blocks pieces)
        look v there.fixed)

    near : data_at + place + shape_bytes look < 2 ^ 32
    near = subst (λ a. a + shape_bytes look < 2 ^ 32) place_is there.near

    from : IsArgument x (state x b g naming rest y ty type_hooked to refl own typed) naming rest
        (state_good x b g naming rest y ty type_hooked to refl own typed) b.is_table b.have false (at_base (Made v)) (data_at + place) ty
    from =
        linked_argument x (state x b g naming rest y ty type_hooked to refl own typed) naming rest
        (state_good x b g naming rest y ty type_hooked to refl own typed) b.is_table b.have ty type_hooked.numbers false (at_base (Made v)) (data_at + place) tt
        (record { value = v; base = refl; stands = stands; near = near })

    code_is : code_here x g naming rest y
        ≡ hook_code (around x.table x.blocks (body_of g)) Copies ty (house g.call.site (of_value to)).home (Static place) (code_next x g naming rest y)
    code_is = by (is_read how.how)
      where
        by : (read : Bool) → constant_by (around x.table x.blocks (body_of g)) read (is_hooked x.table ty) (text_in pieces) ty (house g.call.site (of_value to))
            pieces (code_next x g naming rest y)
            ≡ hook_code (around x.table x.blocks (body_of g)) Copies ty (house g.call.site (of_value to)).home (Static place) (code_next x g naming rest y)
        by true =
            ap₂ (λ h o. constant_by (around x.table x.blocks (body_of g)) true h o ty (house g.call.site (of_value to)) pieces (code_next x g naming rest y))
            hooked other
        by false =
            ap₂ (λ h o. constant_by (around x.table x.blocks (body_of g)) false h o ty (house g.call.site (of_value to)) pieces (code_next x g naming rest y))
            hooked other

    abbrev copy : Deed Value
    copy = copied form (at_base (Made v))

    waiting : value_waits x.table (L.Constant to how ty pieces) ≡ (true && waits how.how)
    waiting = ap₂ (λ a c. a && c) hooked (waits_as pieces how.how other)

    made : Completes x (starts g naming rest) rest
        (Passes (perform ((costs 1 copy >>= kept_if true (bound_for g how)) >>= (λ u. give (with_value to g.call.temps u))) g.world))
    made =
        made_completes x g naming rest y g.call.temps to how true waiting
        (λ c k. ap (λ q. code.kept_if x.table c.own.waiters (value (around x.table x.blocks c)) q how.node to k) waiting)
        (λ h w. used_there x g naming rest y (constant_waits pieces how.how) to how ty refl refl own typed hooks (waits_as pieces how.how other ∙ w))
        (costs 1 copy) (copy_from x b g naming rest y ty type_hooked to refl own typed (at_base (Made v)) (data_at + place) from (Static place) tt refl
        code_is 1)

    same : perform ((copy >>= kept_if true (bound_for g how)) >>= (λ u. give (with_value to g.call.temps u))) g.world
        ≡ perform ((copy >>= made_by true (bound_for g how)) >>= (λ u. give (with_value to g.call.temps u))) g.world
    same =
        perform_on copy (kept_if true (bound_for g how)) (λ u. give (with_value to g.call.temps u)) g.world
        ∙ same_answers copy g.world (λ u. kept_if true (bound_for g how) u >>= (λ q. give (with_value to g.call.temps q)))
        (λ u. made_by true (bound_for g how) u >>= (λ q. give (with_value to g.call.temps q))) (by (perform copy g.world) refl)
        ∙ sym (perform_on copy (made_by true (bound_for g how)) (λ u. give (with_value to g.call.temps u)) g.world)
      where
        by : (done : Done Value) → perform copy g.world ≡ done
            → Same copy g.world (λ u. kept_if true (bound_for g how) u >>= (λ q. give (with_value to g.call.temps q)))
            (λ u. made_by true (bound_for g how) u >>= (λ q. give (with_value to g.call.temps q))) done
        by (Answers es n u after) e =
            ap (λ (d : Deed Value). perform (d >>= (λ q. give (with_value to g.call.temps q))) after)
            (kept_made (bound_for g how) u (λ text is.
            let s = stored_from x b g naming rest y ty type_hooked to refl own typed (at_base (Made v)) (data_at + place) from (Static place) tt refl
            code_is es n
            u after e in
            no_text_stored (is_fixed g.ground) s.0 s.1 s.2 look text (no_block look pieces fits_so other)
            (subst (λ q. Stored (is_fixed g.ground) s.0 s.1 s.2 look q) is s.3)))
        by (Finishes es n status after) e = tt
        by (Fails es n after) e = tt

    linked_completes : Completes x (starts g naming rest) rest (gives (scene_of (high x.table x.blocks (starts g naming rest))) to
        (costs 1 (constant_for true form (pieces_bytes pieces) v) >>= made_by true (bound_for g how)))
    linked_completes =
        subst (λ d. Completes x (starts g naming rest) rest
        (Passes (perform ((costs 1 d >>= made_by true (bound_for g how)) >>= (λ u. give (with_value to g.call.temps u))) g.world)))
        (sym (copied_constant form (pieces_bytes pieces) v (no_text look pieces fits_so other)))
        (subst (λ done. Completes x (starts g naming rest) rest (Passes (behind [] 1 done))) same made)

    -- all of the line
    pub linked_whole : Completes x (starts g naming rest) rest (block_does (known x) (scene_of (high x.table x.blocks (starts g naming rest))) naming)
    linked_whole =
        subst (λ h. Completes x (starts g naming rest) rest (gives (scene_of (high x.table x.blocks (starts g naming rest))) to
        (costs 1 (constant_for h form (pieces_bytes pieces) v) >>= made_by h (bound_for g how)))) (sym hooks) linked_completes
