-- A text operand of a row, however it is given: the value of a temporary, or a location that is lent; a text or a character.
use Rattle.std.proofs.Common.{◌≡◌, ◌⊎◌, inl, inr, ℕ, ◌+◌, ◌%◌, ◌^◌, ◌<◌, ◌≤◌, List, [], ◌∷◌, length, map, Option, Some, None, Bool, true, false, refl, sym, ap}
use Rattle.std.proofs.Common.{subst, ◌∙◌, arith}
use Rattle.std.specs.Prelude.{option_map, slice_get, ◌||◌}
use Rattle.std.specs.Set.{is_member}
use Rattle.std.proofs.lemmas.Bool.{and_parts}
use Rattle.nim_types.specs.declared.types.TypeDef.{TypeDef}
use Rattle.nim_types.specs.declared.types.TypeDef.TheVariants as D
use Rattle.nim_types.specs.Forms.{form_of, hooked}
use Rattle.nim_types.specs.Table.{facts_in, type_at, types_in}
use Rattle.nim_types.specs.Types as type
use Rattle.nim_types.specs.Types.{Facts, Ty, same_text}
use Rattle.nim_program.specs.declared.operation.Use.{Use}
use Rattle.nim_program.specs.Ints.{low_byte}
use Rattle.nim_program.specs.Kinds.{same_value}
use Rattle.nim_meaning.specs.Here.{gives_hooked}
use Rattle.nim_meaning.specs.Shapes.{is_given, is_lent}
use Rattle.nim_meaning.specs.Texts.{shown}
use Rattle.nim_meaning.specs.Values.{At, Operand, Value, location_of, value_of}
use Rattle.nim_meaning.specs.State.{is_seen, is_there, is_whole, load, text_of}
use Rattle.flat_code.specs.declared.block.BlockLine.{BlockLine}
use Rattle.flat_code.specs.declared.place.PlaceKind.{PlaceKind}
use Rattle.flat_code.specs.declared.line.From.{From}
use Rattle.flat_code.specs.declared.line.From.TheVariants as F
use Rattle.flat_code.specs.Fits as fit
use Rattle.flat_code.specs.Fits.{is_location, is_value, may_stand}
use Rattle.flat_code.specs.Lines.{fetch}
use Rattle.flat_code.specs.Scene.{Where, if_value, location_at}
use Rattle.flat_code.specs.Shapes.{block, shape_of}
use Rattle.flat_code.specs.Sizes.{lines_texts}
use Rattle.heap_memory.specs.TextRoutines.{AreBytes}
use Rattle.word_code.specs.declared.word.WordInstr.{WordInstr}
use Rattle.word_code.proofs.ForCallers.{at as state_at, none as no_lines, sizes_same}
use Rattle.word_lowering.specs.declared.handed.TheConstants.{LEFT_HANDLE_AT}
use Rattle.word_lowering.specs.declared.homes.TheConstants.{OWN_FROM}
use Rattle.word_lowering.specs.declared.homes.Alias.{Alias}
use Rattle.word_lowering.specs.declared.homes.Alias.TheVariants as alias
use Rattle.word_lowering.specs.declared.homes.Home.{Home as Place}
use Rattle.word_lowering.specs.declared.homes.Housed.{Housed}
use Rattle.word_lowering.specs.declared.texts.TheConstants.{FIXED_BYTES}
use Rattle.word_lowering.specs.Layouts.{found}
use Rattle.word_lowering.specs.Lowered.{data_at}
use Rattle.word_lowering.specs.Operands.{Around, location, named, operand, variable_of}
use Rattle.word_lowering.specs.OwnedCode as owned
use Rattle.word_lowering.specs.OwnedCode.{literal_text}
use Rattle.word_lowering.specs.Stored.{entry_at}
use Rattle.word_lowering.specs.Texts.{members_of}
use Rattle.word_lowering.proofs.AddressFacts.{at_homed, in_memory}
use Rattle.word_lowering.proofs.AliasFits.{same_value as one_value}
use Rattle.word_lowering.proofs.AllOperands.{given_load, given_value}
use Rattle.word_lowering.proofs.Arithmetic.{small_byte}
use Rattle.word_lowering.proofs.FixedTexts.{fixed_closed, fixed_there}
use Rattle.word_lowering.proofs.BlankShapes.{of_handles}
use Rattle.word_lowering.proofs.HookedReads.{value_lies}
use Rattle.word_lowering.proofs.HouseHooks.{hooks_type}
use Rattle.word_lowering.proofs.JoinedTypes.{Joined}
use Rattle.word_lowering.proofs.LineFits.{same_type}
use Rattle.word_lowering.proofs.Lines.{Basis, IsGood, known, lower, starts}
use Rattle.word_lowering.proofs.Located.{led_stored}
use Rattle.word_lowering.proofs.Moves.{IsHigh, all_same}
use Rattle.word_lowering.proofs.Options.{none_some, some_same}
use Rattle.word_lowering.proofs.Related.{Both, IsClosed, body_of, called_by, sites_of, store_of, within}
use Rattle.word_lowering.proofs.RowOperands.{HasHandleAt, char_here, literal_handle, own_handle, source_beside, text_short}
use Rattle.word_lowering.proofs.Scenes.{IsInValue, IsLedBy, IsNamed, IsThere, Points, StoredIn, house, is_fixed, looked, of_location, of_place, of_value}
use Rattle.word_lowering.proofs.Scenes.{Leads, site_of}
use Rattle.word_lowering.proofs.SeenHandles.{led_behind, led_full, text_handle}
use Rattle.word_lowering.proofs.ShapeFacts.{never}
use Rattle.word_lowering.proofs.Sites.{globals_of, sigs}
use Rattle.word_lowering.proofs.Sites.{Body, IsBody, IsLaidOut, IsTextual, There, looks, around, is_one_word, lines_of, type_of}
use Rattle.word_lowering.proofs.ReadFacts.{start_site}
use Rattle.word_lowering.proofs.TextOperands.{FixedThere, IsText, text_at_handle}
use Rattle.word_lowering.proofs.Told.{told_none}
use Rattle.word_lowering.proofs.TypeEntries.{entry_text}
use Rattle.word_lowering.proofs.TypeShapes.{Looks}
use Rattle.word_lowering.proofs.ValueFacts.{HasType, IsHomed, has_type, look_of, place_there, type_in, value_plain, with_home}
use Rattle.word_lowering.proofs.WrittenLines.{Writing, read, small, small_word}

-- what lines with texts rest on: literals of procedures and names of enums are made of bytes
pub record TextsBuilt (x : Basis) : Type 0 where
  pub letters : (b : Body) → IsBody x.table x.blocks b → (text : List ℕ) → is_member same_text (lines_texts (lines_of b)) text ≡ true → AreBytes text
  -- and all else that is laid out
  pub laid : (text : List ℕ) → IsLaidOut x.table x.blocks text → AreBytes text
  pub names : (ty : ℕ) (def : TypeDef) → entry_at x.table ty ≡ Some def → (n : ℕ) (text : List ℕ) → slice_get (members_of def) n ≡ Some text → AreBytes text

-- what has something to do at its end has handles, and is no word
pub hooked_many : (x : Basis) (b : Body) → IsBody x.table x.blocks b → (is_kind : PlaceKind → Bool) (n : ℕ) → There b.own.all is_kind n
    → hooked (form_of (facts_in x.table) (type_of x.table (found is_kind n b.own.all))) ≡ true
    → (of_handles (looks x.table (found is_kind n b.own.all)) ≡ true) × (is_one_word (looks x.table (found is_kind n b.own.all)) ≡ false)
hooked_many x b body is_kind n there hooks =
    body.built (found is_kind n b.own.all) there.among (hooks_type x (found is_kind n b.own.all) ∙ hooks)

-- where a temporary with a location leads, if the operand is that
pub record IsAtPlace (o : Option Where) (place : Where → Operand) (z : Operand) : Type 0 where
  pub there : Where
  pub has : o ≡ Some there
  pub is : place there ≡ z

pub at_place : (o : Option Where) (place : Where → Operand) (z : Operand) → option_map place o ≡ Some z → IsAtPlace o place z
at_place None place z e = absurd (none_some z e)
at_place (Some there) place z e = record { there = there; has = refl; is = some_same (place there) z e }

-- the type of what an operand is, or leads to
abbrev pub type_from : (x : Basis) → Both → From → Option Ty
type_from x g (F.Value t) = type_in x is_value (body_of g) t
type_from x g (F.Place t) = type_in x is_location (body_of g) t

-- what isn't hooked isn't lent
abbrev pub IsPlacedSo : From → (hooked : Bool) → Type 0
IsPlacedSo (F.Value t) b = Unit {0}
IsPlacedSo (F.Place t) b = b ≡ true

-- operands have the types that a row has for them, and stand for values where these are hooked alone
module _ (x : Basis) (g : Both) where
  abbrev pub AreTyped : List (Option Ty) → List From → Type 0
  AreTyped of from = fit.are_of (known x) (sigs x.table x.blocks) (globals_of x.table x.blocks) (body_of g).proc.places of from ≡ true

  pub typed_parts : (f : From) (ty : Option Ty) (of : List (Option Ty)) (from : List From) → AreTyped (ty ∷ of) (f ∷ from)
      → (type_from x g f ≡ ty) × AreTyped of from
  typed_parts (F.Value t) ty of from h =
      let p = and_parts (same_value (type_from x g (F.Value t)) ty) (fit.are_of (known x) (sigs x.table x.blocks) (globals_of x.table x.blocks)
      (body_of g).proc.places of from) h in
      (same_type (type_from x g (F.Value t)) ty p.0, p.1)
  typed_parts (F.Place t) ty of from h =
      let p = and_parts (same_value (type_from x g (F.Place t)) ty) (fit.are_of (known x) (sigs x.table x.blocks) (globals_of x.table x.blocks)
      (body_of g).proc.places of from) h in
      (same_type (type_from x g (F.Place t)) ty p.0, p.1)

pub placed_parts : (facts : Facts) (how : Use) (f : From) (ty : Option Ty) (of : List (Option Ty)) (from : List From)
    → fit.are_placed facts how 0 (ty ∷ of) (f ∷ from) ≡ true → IsPlacedSo f (gives_hooked facts ty) × (fit.are_placed facts how 0 of from ≡ true)
placed_parts facts how (F.Value t) ty of from h = (tt, h)
placed_parts facts how (F.Place t) ty of from h =
    let m = and_parts (may_stand facts how ty) (fit.are_placed facts how 0 of from) h in
    ((and_parts (gives_hooked facts ty) (is_lent how || is_given how) m.0).0, m.1)

module _ (x : Basis) (said : Writing x) (texts : TextsBuilt x) (g : Both) (line : BlockLine) (rest : List BlockLine) (y : IsGood x (starts g line rest)) where
  abbrev here : Around
  here = around x.table x.blocks (body_of g)

  -- ---- where a handle stands

  abbrev fixed : FixedThere (is_fixed g.ground) g.memory
  fixed = fixed_there x (starts g line rest) y

  abbrev closed : (place : ℕ) (text : List ℕ) → is_fixed g.ground place text → IsClosed x.table x.blocks place (length text)
  closed = fixed_closed x (starts g line rest) y

  abbrev letters : (text : List ℕ) → is_member same_text (lines_texts (lines_of (body_of g))) text ≡ true → AreBytes text
  letters = texts.letters (body_of g) y.linked.0

  lying_handle : (from : ℕ) (home : Place) (v : Value) (a : ℕ) → IsHigh home → Points g.call.site.base g.call.vars home a → a < 2 ^ 32
      → data_at + FIXED_BYTES ≤ a → StoredIn (store_of g) a block v → is_whole g.world v ≡ true → (k : List WordInstr)
      → HasHandleAt x said g line rest y from k k home (text_of g.world v)
  lying_handle from home v a high points small behind stored whole k =
      let text : IsText (is_fixed g.ground) v = text_handle (is_fixed g.ground) g.ground.blocks g.world g.memory a v stored whole in
      record {
        vars = g.call.vars;
        same = all_same g.call.vars;
        memory = g.memory;
        told = told_none x said.least (sites_of g) g.memory y.memory;
        only = record { sizes = sizes_same g.memory; beside = λ b i h. refl };
        address = a;
        text_at = text_at_handle (is_fixed g.ground) g.ground.blocks g.world g.memory y.heap y.memory.sized y.memory.bytes fixed a v text stored whole;
        beside = λ other low top apart. (
          inr (omega (arith, behind, top)),
          source_beside x said g line rest y y.memory.bytes fixed closed a v text stored whole other low top,
        );
        short = text_short x said g line rest y closed a v text stored whole;
        at_home = record { points = points; high = high; small = small };
        count = 0;
        few = omega arith;
        runs = no_lines (lower x) (state_at (within x.table x.blocks g) g.memory k g.call.vars g.words);
      }

  -- ---- what a location is another name for

  -- a value that is a literal
  pub record IsLiteralPlace (t : ℕ) (there : Where) : Type 0 where
    pub temp : ℕ
    pub is : (house g.call.site (of_location t)).alias ≡ alias.Value temp
    pub named_value : IsNamed g.call.site (of_value temp)
    pub textual : IsTextual x.table x.blocks (house g.call.site (of_value temp))
    pub has : IsInValue x.table g.call temp there

  -- or what has a home
  pub record IsHomePlace (t : ℕ) : Type 0 where
    pub homed : IsHomed x g.call.site t
    pub own : (location here t).alias ≡ alias.Own

  pub home_or_literal : (t : ℕ) (there : Where) → IsNamed g.call.site (of_location t) → g.call.temps.places t ≡ Some there
      → IsHomePlace t ⊎ IsLiteralPlace t there
  home_or_literal t there n e = by (house g.call.site (of_location t)).alias refl (y.hold.0.led t there n e)
    where
      own_type : Ty
      own_type = type_of x.table (house g.call.site (of_location t))

      name_is : (a : Alias) → (house g.call.site (of_location t)).alias ≡ a → (named here a (house g.call.site (of_location t))).alias ≡ alias.Own
          → (location here t).alias ≡ alias.Own
      name_is a is own = subst (λ b. (named here b (house g.call.site (of_location t))).alias ≡ alias.Own) (sym is) own

      by : (a : Alias) → (house g.call.site (of_location t)).alias ≡ a
          → IsLedBy x.table x.blocks a (sites_of g) g.ground g.world g.call t there → IsHomePlace t ⊎ IsLiteralPlace t there
      by alias.Own is r = inl (record { homed = λ u v. absurd (no_value u (sym is ∙ v)); own = name_is alias.Own is is })
        where
          no_value : (u : ℕ) → alias.Own ≡ alias.Value u → ⊥
          no_value u e = cc
      by (alias.Place p true) is r =
          let s = start_site x.table x.blocks g.call.site (map site_of (map called_by g.waiting)) y.linked in
          let global = s.body.global s.start p own_type (y.linked.0.aliased t p true n is) in
          let there_is = place_there x s.site p s.body global.there in
          inl (record {
            homed = λ u v. absurd (no_value u (sym is ∙ v));
            own = name_is (alias.Place p true) is (subst (λ h. h.alias ≡ alias.Own) (sym global.same) there_is.own);
          })
        where
          no_value : (u : ℕ) → alias.Place p true ≡ alias.Value u → ⊥
          no_value u e = cc
      by (alias.Place p false) is r =
          let typed = has_type x g.call.site (of_place p) own_type y.linked.0 (y.linked.0.aliased t p false n is) in
          inl (record {
            homed = λ u v. absurd (no_value u (sym is ∙ v));
            own = name_is (alias.Place p false) is (place_there x g.call.site p y.linked.0 typed.named).own;
          })
        where
          no_value : (u : ℕ) → alias.Place p false ≡ alias.Value u → ⊥
          no_value u e = cc
      by (alias.Node m) is r = inl (record { homed = λ u v. absurd (no_value u (sym is ∙ v)); own = name_is (alias.Node m) is r.is_there.own })
        where
          no_value : (u : ℕ) → alias.Node m ≡ alias.Value u → ⊥
          no_value u e = cc
      by (alias.Text behind size) is r = absurd r
      by (alias.Value u) is r = go (y.linked.0.values u typed.named)
        where
          typed : HasType x g.call.site (of_value u) own_type
          typed = has_type x g.call.site (of_value u) own_type y.linked.0 (y.linked.0.valued t u n is).0

          go : ((house g.call.site (of_value u)).alias ≡ alias.Own) ⊎ IsTextual x.table x.blocks (house g.call.site (of_value u))
              → IsHomePlace t ⊎ IsLiteralPlace t there
          go (inl own) = inl (record {
            homed = λ w v. subst (λ i. IsThere g.call.site (of_value i)) (one_value u w (sym is ∙ v)) (with_home x typed.named own tt);
            own = name_is (alias.Value u) is own;
          })
          go (inr text) = inr (record { temp = u; is = is; named_value = typed.named; textual = text; has = r })

  -- a character, which is the word of its operand's variable
  pub record IsLetter (f : From) (text : List ℕ) : Type 0 where
    pub letter : ℕ
    pub small : letter < 256
    pub is : letter ∷ [] ≡ text
    pub high : OWN_FROM ≤ variable_of (operand here f)
    pub word_is : g.call.vars (variable_of (operand here f)) ≡ Some letter

  -- ---- one operand, and where its handle is made if it has none

  module _ (from : ℕ) (low : LEFT_HANDLE_AT ≤ from) (top : from + 12 ≤ FIXED_BYTES) (aligned : from % 4 ≡ 0) (k : List WordInstr) where
    abbrev pub Has : Option TypeDef → Housed → List ℕ → Type 0
    Has entry h text = HasHandleAt x said g line rest y from (owned.entry_text here from entry h k) k (owned.entry_home from entry h) text

    -- of a literal
    literal_has : (t : ℕ) (v : Value) → IsNamed g.call.site (of_value t) → IsTextual x.table x.blocks (house g.call.site (of_value t))
        → g.call.temps.values t ≡ Some v → Has (Some D.Text) (house g.call.site (of_value t)) (text_of g.world v)
    literal_has t v n s e =
        subst (λ a. HasHandleAt x said g line rest y from (literal_text here from (house g.call.site (of_value t)).alias k) k
        (owned.literal_home from a (house g.call.site (of_value t)).home) (text_of g.world v)) (sym s.is)
        (literal_handle x said g line rest y from low top aligned t v s (y.hold.0.texts t s.behind s.bytes v n s.is e) letters k)

    -- the text of a location
    pub place_has : (t : ℕ) (there : Where) → IsNamed g.call.site (of_location t) → looked x.table g.call.site (of_location t) ≡ block
        → g.call.temps.places t ≡ Some there → is_seen g.world (location_at g.call.temps there) ≡ true
        → Has (Some D.Text) (location here t) (text_of g.world (load g.world (location_at g.call.temps there)))
    place_has t there n look e seen = by (home_or_literal t there n e)
      where
        v : Value
        v = load g.world (location_at g.call.temps there)

        by : IsHomePlace t ⊎ IsLiteralPlace t there → Has (Some D.Text) (location here t) (text_of g.world (load g.world (location_at g.call.temps there)))
        by (inl p) =
            let a = at_homed x g line rest y t there n p.homed e (ap is_one_word look) in
            let leads = subst (Leads x.table x.blocks (sites_of g) g.ground g.world g.call.site g.call.temps there a.address) look a.leads_to in
            let q = and_parts (is_there g.world (location_at g.call.temps there)) (is_whole g.world (load g.world (location_at g.call.temps there))) seen in
            let full = led_full x (starts g line rest) y g.call (inl refl) there a.address block tt seen leads in
            let r = led_stored x (starts g line rest) y g.call (inl refl) (inl refl) there a.address block (inr refl) full leads in
            let near = r.readable.near in
            subst (λ b. HasHandleAt x said g line rest y from (literal_text here from b k) k (owned.literal_home from b (location here t).home)
            (text_of g.world (load g.world (location_at g.call.temps there)))) (sym p.own)
            (subst (λ h. HasHandleAt x said g line rest y from k k h (text_of g.world (load g.world (location_at g.call.temps there)))) (sym a.home_is)
            (lying_handle from a.home (load g.world (location_at g.call.temps there)) a.address a.high_is a.points (omega (arith, near))
            (led_behind x (starts g line rest) y said.least g.call (inl refl) (inl refl) there a.address block tt q.0 leads) r.stored q.1 k))
        by (inr p) =
            subst (λ b. Has (Some D.Text) (named here b (house g.call.site (of_location t)))
            (text_of g.world (load g.world (location_at g.call.temps there)))) (sym p.is)
            (subst (λ z. Has (Some D.Text) (house g.call.site (of_value p.temp)) (text_of g.world (load g.world (location_at g.call.temps z)))) (sym p.has.is)
            (subst (λ o. Has (Some D.Text) (house g.call.site (of_value p.temp)) (text_of g.world (if_value o))) (sym p.has.has)
            (literal_has p.temp p.has.value p.named_value p.textual p.has.has)))

    -- of a value
    pub text_value_has : (t : ℕ) (ty : Ty) (v : Value) → type_in x is_value (body_of g) t ≡ Some ty → shape_of (facts_in x.table) ty ≡ block
        → g.call.temps.values t ≡ Some v → is_whole g.world v ≡ true → Has (Some D.Text) (house g.call.site (of_value t)) (text_of g.world v)
    text_value_has t ty v typed is e whole = by (y.linked.0.values t has.named)
      where
        has : HasType x g.call.site (of_value t) ty
        has = has_type x g.call.site (of_value t) ty y.linked.0 typed

        look : looked x.table g.call.site (of_value t) ≡ block
        look = look_of x g.call.site (of_value t) ty has ∙ is

        by : ((house g.call.site (of_value t)).alias ≡ alias.Own) ⊎ IsTextual x.table x.blocks (house g.call.site (of_value t))
            → Has (Some D.Text) (house g.call.site (of_value t)) (text_of g.world v)
        by (inl own) =
            let there : IsThere g.call.site (of_value t) = with_home x has.named own tt in
            let plain_is = value_plain (house g.call.site (of_value t)) there.kind in
            let inside = in_memory x g line rest y (of_value t) there plain_is (ap is_one_word look) in
            let r = value_lies x g line rest y t v there (ap is_one_word look) e in
            let text : IsText (is_fixed g.ground) v
            = text_handle (is_fixed g.ground) g.ground.blocks g.world g.memory r.address v
            (subst (λ s. StoredIn (store_of g) r.address s v) look r.stored) whole in
            subst (λ a. HasHandleAt x said g line rest y from (literal_text here from a k) k (owned.literal_home from a (house g.call.site (of_value t)).home)
            (text_of g.world v)) (sym own)
            (own_handle x said g line rest y from t v there inside look e text whole y.memory.bytes fixed closed k)
        by (inr s) = literal_has t v has.named s e

    pub value_has : (t ty : ℕ) (v : Value) → type_in x is_value (body_of g) t ≡ Some (type_at (types_in x.table) ty)
        → shape_of (facts_in x.table) (type_at (types_in x.table) ty) ≡ block → g.call.temps.values t ≡ Some v → is_whole g.world v ≡ true
        → Has (Some D.Text) (house g.call.site (of_value t)) (text_of g.world v)
    value_has t ty v typed is e whole = text_value_has t (type_at (types_in x.table) ty) v typed is e whole

    -- ---- in words of lines

    module _ (ty : ℕ) (z : Operand) (seen : is_seen g.world (location_of z) ≡ true) where
      abbrev of : Ty
      of = type_at (types_in x.table) ty

      abbrev Here : From → Option TypeDef → Type 0
      Here f entry = HasHandleAt x said g line rest y from (owned.entry_text here from entry (operand here f) k) k
          (owned.entry_home from entry (operand here f)) (shown (facts_in x.table) g.world (Some of) z)

      whole_is : is_whole g.world (load g.world (location_of z)) ≡ true
      whole_is = (and_parts (is_there g.world (location_of z)) (is_whole g.world (load g.world (location_of z))) seen).1

      -- what a text of this entry is
      shown_is : (entry : Option TypeDef) → entry_at x.table ty ≡ entry
          → entry_text g.world entry (load g.world (location_of z)) ≡ shown (facts_in x.table) g.world (Some of) z
      shown_is entry e = ap (λ d. entry_text g.world d (load g.world (location_of z))) (sym e) ∙ sym (said.texts g.world ty (load g.world (location_of z)))

      text_from : (f : From) → fetch g.call.temps f ≡ Some z → type_from x g f ≡ Some of → entry_at x.table ty ≡ Some D.Text → Here f (Some D.Text)
      text_from (F.Value t) got typed entry =
          let load_is = given_load g.world (g.call.temps.values t) z got in
          subst (Has (Some D.Text) (house g.call.site (of_value t))) (shown_is (Some D.Text) entry)
          (subst (λ v. Has (Some D.Text) (house g.call.site (of_value t)) (text_of g.world v)) (sym load_is)
          (value_has t ty (value_of z) typed (subst (λ d. Looks x.table d (shape_of (facts_in x.table) of)) entry (said.looks ty))
          (given_value (g.call.temps.values t) z got) (subst (λ v. is_whole g.world v ≡ true) load_is whole_is)))
      text_from (F.Place t) got typed entry =
          let p = at_place (g.call.temps.places t) (λ there. At (location_at g.call.temps there)) z got in
          let has = has_type x g.call.site (of_location t) of y.linked.0 typed in
          let look = look_of x g.call.site (of_location t) of has in
          subst (Has (Some D.Text) (location here t)) (shown_is (Some D.Text) entry)
          (subst (λ u. Has (Some D.Text) (location here t) (text_of g.world (load g.world (location_of u)))) p.is
          (place_has t p.there has.named (look ∙ subst (λ d. Looks x.table d (shape_of (facts_in x.table) of)) entry (said.looks ty)) p.has
          (subst (λ u. is_seen g.world (location_of u) ≡ true) (sym p.is) seen)))

      char_from : (f : From) → fetch g.call.temps f ≡ Some z → type_from x g f ≡ Some of → entry_at x.table ty ≡ Some D.Char → of ≡ type.char
          → IsPlacedSo f (hooked (form_of (facts_in x.table) of)) → Here f (Some D.Char)
      char_from (F.Value t) got typed entry is placed =
          let load_is = given_load g.world (g.call.temps.values t) z got in
          subst (Has (Some D.Char) (house g.call.site (of_value t))) (shown_is (Some D.Char) entry)
          (subst (λ v. Has (Some D.Char) (house g.call.site (of_value t)) (entry_text g.world (Some D.Char) v)) (sym load_is)
          (char_here x said g line rest y from low top aligned t ty (value_of z) typed (given_value (g.call.temps.values t) z got) k
          (subst (λ d. Looks x.table d (shape_of (facts_in x.table) of)) entry (said.looks ty))))
      char_from (F.Place t) got typed entry is placed = never (sym (ap (λ u. hooked (form_of (facts_in x.table) u)) is) ∙ placed)

      pub letter_from : (f : From) → fetch g.call.temps f ≡ Some z → type_from x g f ≡ Some of → entry_at x.table ty ≡ Some D.Char → of ≡ type.char
          → IsPlacedSo f (hooked (form_of (facts_in x.table) of)) → IsLetter f (shown (facts_in x.table) g.world (Some of) z)
      letter_from (F.Value t) got typed entry is placed =
          let value_is = given_value (g.call.temps.values t) z got in
          let looks_so = subst (λ d. Looks x.table d (shape_of (facts_in x.table) of)) entry (said.looks ty) in
          let s = small x said g line rest y t ty (value_of z) typed value_is k g.world 256 looks_so in
          record {
            letter = s.0;
            small = s.2;
            is = ap (λ b. b ∷ []) (sym (ap low_byte s.1 ∙ small_byte s.0 s.2))
                ∙ ap (λ v. entry_text g.world (Some D.Char) v) (sym (given_load g.world (g.call.temps.values t) z got)) ∙ shown_is (Some D.Char) entry;
            high = (read x said g line rest y t ty (value_of z) typed value_is k g.world (Some 256) looks_so).high;
            word_is = small_word x said g line rest y t ty (value_of z) typed value_is k g.world 256 looks_so;
          }
      letter_from (F.Place t) got typed entry is placed = never (sym (ap (λ u. hooked (form_of (facts_in x.table) u)) is) ∙ placed)

      pub operand_has : (f : From) → fetch g.call.temps f ≡ Some z → type_from x g f ≡ Some of → Joined (entry_at x.table ty) of
          → IsPlacedSo f (hooked (form_of (facts_in x.table) of))
          → HasHandleAt x said g line rest y from (owned.text_made here from (Some ty) (operand here f) k) k
          (owned.text_home here from (Some ty) (operand here f)) (shown (facts_in x.table) g.world (Some of) z)
      operand_has f got typed (inl entry) placed =
          subst (Here f) (sym entry) (text_from f got typed entry)
      operand_has f got typed (inr entry) placed =
          subst (Here f) (sym entry.0) (char_from f got typed entry.0 entry.1 placed)
