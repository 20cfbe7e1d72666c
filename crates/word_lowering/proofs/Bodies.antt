-- The procedures of block code are as the relation wants them: from tests that are true of it.
use Rattle.std.proofs.Common.{◌≡◌, ◌⊎◌, inl, inr, ℕ, ◌+◌, ◌≤◌, ◌<◌, List, ◌∷◌, ◌++◌, length, map, [], not, ◌&&◌, if◌then◌else◌}
use Rattle.std.proofs.lemmas.Bool.{and_parts, not-true}
use Rattle.std.proofs.Common.{Some, None, Bool, true, false}
use Rattle.std.proofs.Common.{refl, sym, ap, ap₂, subst, ◌∙◌, arith}
use Rattle.nim_types.specs.declared.types.TypeDef.{TypeDef}
use Rattle.nim_types.specs.Types.{Ty, same}
use Rattle.nim_types.specs.Table.{facts_in, type_at, types_in, IsTable}
use Rattle.nim_types.proofs.ForCallers.{same_sound}
use Rattle.flat_code.specs.declared.line.Line.{Line}
use Rattle.flat_code.specs.declared.line.Line.TheVariants as L
use Rattle.flat_code.specs.declared.place.PlaceKind.{PlaceKind}
use Rattle.flat_code.specs.declared.place.PlaceKind.TheVariants as K
use Rattle.flat_code.specs.declared.place.FlatPlace.{FlatPlace}
use Rattle.flat_code.specs.declared.code.CodeProc.{CodeProc}
use Rattle.flat_code.specs.declared.block.BlockLine.{BlockLine}
use Rattle.flat_code.specs.declared.code.Code.{Code}
use Rattle.flat_code.specs.Scene.{known_in}
use Rattle.flat_code.specs.Shapes.{shape_of}
use Rattle.flat_code.specs.Codes.{block_plain, block_label}
use Rattle.flat_code.specs.Running.{from_label}
use Rattle.flat_code.specs.Fits.{is_value, is_location, is_declared, is_global, is_own, is_standing, place_named, place_type, if_type_of, if_kind, result_at}
use Rattle.flat_code.specs.Fits.{are_within, all_fit, params_at, results_at, follow, type_by_kind}
use Rattle.word_lowering.specs.declared.homes.Alias.{Alias}
use Rattle.word_lowering.specs.declared.homes.Alias.TheVariants as alias
use Rattle.word_lowering.specs.declared.homes.Housed.{Housed}
use Rattle.word_lowering.specs.declared.homes.Waiter.{Waiter}
use Rattle.word_lowering.specs.declared.homes.Free.{Free}
use Rattle.word_lowering.specs.declared.homes.Layout.{Layout}
use Rattle.word_lowering.specs.declared.texts.TheConstants.{FIXED_BYTES}
use Rattle.word_lowering.specs.declared.may_lower.TheConstants.{MOST_ROOM}
use Rattle.word_lowering.specs.Stored.{HaveForms, is_hooked}
use Rattle.word_lowering.specs.Aliases.{value_to, location_to, alias_by, alias_in, alias_for, addressed, homed, is_among, is_it, own_literal, own_where}
use Rattle.word_lowering.specs.Aliases.{standing, texts_of}
use Rattle.word_lowering.specs.WaitingCode.{waiter_at}
use Rattle.word_lowering.specs.Layouts.{free_at, layout_of, housed, all_housed, behind_all, found, result_in, owns, address_by}
use Rattle.word_lowering.specs.LineCode.{labels_in}
use Rattle.word_lowering.specs.Lowered.{start_layout}
use Rattle.word_lowering.specs.MayLower.{is_known, all_known, has_code, homed_by, is_as, is_value_as, leads_right, line_may, lines_may, labels_once, own_values}
use Rattle.word_lowering.specs.MayLower.{result_end, placed_end}
use Rattle.word_lowering.proofs.AllWaiters.{are_waiters}
use Rattle.word_lowering.proofs.TypeShapes.{type_many}
use Rattle.word_lowering.proofs.AliasFits.{GivenBy, given_by, Rooted, rooted, entered, Written, value_name}
use Rattle.word_lowering.proofs.HomesApart.{all_apart, all_between}
use Rattle.word_lowering.proofs.LabelsFirst.{first_one}
use Rattle.word_lowering.proofs.LayoutBounds.{room_whole}
use Rattle.word_lowering.proofs.Options.{none_some, some_same}
use Rattle.word_lowering.proofs.PlaceFacts.{own_declared, global_is, declared_own, each_among, known_among, all_aligned, comes, IsFound, place_unlent}
use Rattle.word_lowering.proofs.PlaceFacts.{IsMissing, find, found_there, numbers_within, one_found, ResultAt, result_cases, housing, kept_in_variable}
use Rattle.word_lowering.proofs.PlaceFacts.{addressed_in_memory, global_home, place_numbers, place_unhooked, place_built, place_many, place_shape_bytes}
use Rattle.word_lowering.proofs.LetterShapes.{place_is_letter}
use Rattle.word_lowering.proofs.PlaceFacts.{place_is_word}
use Rattle.word_lowering.proofs.PlaceFacts.{place_rows, place_parts}
use Rattle.word_lowering.proofs.ShapeFacts.{never}
use Rattle.word_lowering.proofs.Sites.{Body, room, type_of, Among, There, InMemory, data_end, sigs, globals_of, HasTexts, IsHoused, IsGlobal}
use Rattle.word_lowering.proofs.Sites.{ResultIs, place_among, IsTextual, IsBody, IsKeptAt}
use Rattle.word_code.specs.declared.word.TheConstants.{SPARE_ROOM}
use Rattle.word_lowering.proofs.StandingAliases.{own_or_literal, own_or_same, still_value}
use Rattle.word_lowering.proofs.WaiterHomes.{room_whole_behind, waiters_datum, waiters_grow}
use Rattle.word_lowering.proofs.WaiterFound.{MayWait, node_of, place_among_named, waiter_there, waits_temporary}
use Rattle.word_lowering.proofs.WaiterTypes.{home_at, typed_at}
use Rattle.flat_code.specs.Waits.{all_wait_right, if_waits, wait_once, waiting_as, waits_in}

-- ---- what lines say of locations within values

no_value : {A : Type 0} (t : ℕ) → alias.Own ≡ alias.Value t → A
no_value t e = absurd cc

place_no_value : {A : Type 0} (p : ℕ) (global : Bool) (t : ℕ) → alias.Place p global ≡ alias.Value t → A
place_no_value p global t e = absurd cc

node_no_value : {A : Type 0} (n t : ℕ) → alias.Node n ≡ alias.Value t → A
node_no_value n t e = absurd cc

same_value : (t u : ℕ) → alias.Value t ≡ alias.Value u → t ≡ u
same_value t u e = cc

module _ (table : List TypeDef) (hs : List Housed) (t u : ℕ) where
  abbrev EntersPlain : Type 0
  EntersPlain = is_hooked table (found is_value u hs).ty ≡ false

  entered_by : (line : Line) (behind : ℕ) → is_it t (location_to line) ≡ true → alias_by line behind ≡ alias.Value u → leads_right table hs line ≡ true
      → EntersPlain
  entered_by (L.Root to place global) behind i e h = place_no_value place global u e
  entered_by (L.Fresh to from None) behind i e h =
      subst (λ k. is_hooked table (found is_value k hs).ty ≡ false) (same_value from u e) (not-true (is_hooked table (found is_value from hs).ty) h)
  entered_by (L.Fresh to from (Some node)) behind i e h = node_no_value node u e
  entered_by (L.Constant to how ty pieces) behind i e h = never i
  entered_by line behind i e h = no_value u e

  pub entered_plain : (stood : List ℕ) (lines : List Line) → lines_may table hs stood lines ≡ true → alias_in location_to t lines ≡ alias.Value u → EntersPlain
  entered_plain stood [] may e = no_value u e
  entered_plain stood (line ∷ rest) may e = by (is_it t (location_to line)) refl (entered_plain stood rest (and_parts _ _ may).1)
    where
      name : Alias
      name = alias_by line (length (texts_of rest))

      tested : leads_right table hs line ≡ true
      tested =
          let m = and_parts (is_value_as hs (value_to line) name) _ (and_parts (line_may table hs stood line (length (texts_of rest))) _ may).0 in
          let n = and_parts (is_as is_location hs (location_to line) (own_where stood name)) _ m.1 in
          let c = and_parts (has_code table line) _ n.1 in
          (and_parts (own_values hs (homed_by line)) (leads_right table hs line) c.1).1

      by : (b : Bool) → is_it t (location_to line) ≡ b → (alias_in location_to t rest ≡ alias.Value u → EntersPlain) → EntersPlain
      by true i go = entered_by line (length (texts_of rest)) i (sym (ap (λ b. if b then name else alias_in location_to t rest) i) ∙ e) tested
      by false i go = go (sym (ap (λ b. if b then name else alias_in location_to t rest) i) ∙ e)

module _ (table : List TypeDef) (blocks : Code BlockLine) where
  -- what is tested of a procedure
  pub record IsTested (start : Bool) (proc : CodeProc BlockLine) : Type 0 where
    pub order : are_within proc.first (proc.first + proc.span) proc.places ≡ true
    pub first : follow proc.first (params_at proc.places ++ results_at proc.places) ≡ true
    pub fits : all_fit (known_in table) (sigs table blocks) (globals_of table blocks) proc.places (map block_plain proc.lines) ≡ true
    pub known : all_known table (layout_of table start FIXED_BYTES proc).all ≡ true
    pub rightly : all_wait_right block_plain (known_in table) proc.places proc.lines ≡ true
    pub alone : wait_once proc.places ≡ true
    pub may : lines_may table (layout_of table start FIXED_BYTES proc).all (standing (map block_plain proc.lines)) (map block_plain proc.lines) ≡ true
    pub once : labels_once (map block_plain proc.lines) ≡ true
    pub labels : labels_in (map block_plain proc.lines) ≤ 4294967295
    pub room : (layout_of table start FIXED_BYTES proc).free.byte ≤ MOST_ROOM
    pub handed : result_end (result_in (layout_of table start FIXED_BYTES proc).all) ≤ SPARE_ROOM

  -- the start code has the globals
  pub record IsStart (start : Bool) (proc : CodeProc BlockLine) : Type 0 where
    pub globals : start ≡ true → globals_of table blocks ≡ proc.places
    pub layout : start ≡ true → start_layout table blocks.procs ≡ layout_of table start FIXED_BYTES proc

  abbrev pub body_at : (start : Bool) → (proc : CodeProc BlockLine) → (literals number : ℕ) → Body
  body_at start proc literals number = record {
    own = layout_of table start FIXED_BYTES proc;
    start = start;
    literals = literals;
    number = number;
    proc = proc;
  }

  module _ (is_table : IsTable table) (have : HaveForms table) (start : Bool) (proc : CodeProc BlockLine) (literals number : ℕ) (is : IsTested start proc)
      (at_start : IsStart start proc) (texts : HasTexts table blocks (body_at start proc literals number)) where
    abbrev b : Body
    b = body_at start proc literals number

    abbrev lines : List Line
    lines = map block_plain proc.lines

    abbrev least : Free
    least = free_at FIXED_BYTES

    abbrev most : Free
    most = behind_all table start lines least proc.places

    abbrev all : List Housed
    all = all_housed table start lines least proc.places

    ends : start ≡ true → most.datum ≤ data_end table blocks
    ends s =
        let e = ap (λ (l : Layout). l.free.datum) (at_start.layout s) in
        let d = waiters_datum most all in omega (arith, e, d)

    within : most.byte ≤ room b
    within = (waiters_grow most all).byte

    -- ---- homes

    known_here : (h : Housed) → Among h all → is_known table h.ty h.kind ≡ true
    known_here h i = known_among table all h is.known i

    one_housed : (f : Free) (p : FlatPlace) → Among (housed table start lines f p) all → (housed table start lines f p).alias ≡ alias.Own
        → IsHoused table blocks b (housed table start lines f p)
    one_housed f p a own =
        let h : Housed = housed table start lines f p in
        record {
          bytes = place_shape_bytes table is_table have p.kind p.ty;
          word = place_is_word table is_table have p.kind p.ty (place_built table is_table have p.kind p.ty (known_here h a));
          letter = place_is_letter table is_table have p.kind p.ty;
          where_is = housing table start lines (room b) FIXED_BYTES (data_end table blocks) f p least most (omega arith) within (omega arith) ends own
              (each_among _ all h (all_between table start lines least proc.places) a own)
              (each_among _ all h (all_aligned table start lines least proc.places (record { byte = refl; datum = refl })) a own);
          kept = kept_in_variable table start lines f p own;
          numbers = place_numbers table is_table have p.kind p.ty;
          unhooked = place_unhooked table is_table have p.kind p.ty;
          unlent = λ h. place_unlent table p.kind p.ty (is_among p.number (standing lines)) h;
          rows = place_rows table is_table have p.kind p.ty;
          fields = place_parts table is_table have p.kind p.ty;
        }

    housed_is : (h : Housed) → Among h all → h.alias ≡ alias.Own → IsHoused table blocks b h
    housed_is h i own =
        let c = comes table start lines least proc.places h i in
        subst (λ z. IsHoused table blocks b z) c.3
        (one_housed c.0 c.1 (subst (λ z. Among z all) (sym c.3) i) (ap (λ (z : Housed). z.alias) c.3 ∙ own))

    named_so : (h : Housed) → Among h all → h.alias ≡ alias_for h.kind h.number lines
    named_so h i =
        let c = comes table start lines least proc.places h i in
        subst (λ (z : Housed). z.alias ≡ alias_for z.kind z.number lines) c.3 refl

    places_are : (h : Housed) → Among h all → is_declared h.kind ≡ true → h.alias ≡ alias.Own
    places_are h i d = named_so h i ∙ declared_own h.kind h.number lines d

    -- ---- what is found

    by_name : (is_kind : PlaceKind → Bool) (n : ℕ)
        → IsFound table start lines least proc.places is_kind n ⊎ IsMissing table start lines least proc.places is_kind n
    by_name is_kind n = find table start lines least proc.places is_kind n

    named_is : (is_kind : PlaceKind → Bool) (n : ℕ) (ty : Ty) → if_type_of (known_in table) (place_named is_kind proc.places n) ≡ Some ty
        → There all is_kind n × (type_of table (found is_kind n all) ≡ ty)
    named_is is_kind n ty e = by (by_name is_kind n)
      where
        by : IsFound table start lines least proc.places is_kind n ⊎ IsMissing table start lines least proc.places is_kind n
            → There all is_kind n × (type_of table (found is_kind n all) ≡ ty)
        by (inl r) = (
          found_there table start lines least proc.places is_kind n r,
          ap (type_of table) r.is
              ∙ some_same (place_type (known_in table) r.place) ty (sym (ap (if_type_of (known_in table)) r.named) ∙ e),
        )
        by (inr r) = absurd (none_some ty (sym (ap (if_type_of (known_in table)) r.named) ∙ e))

    unnamed_is : (is_kind : PlaceKind → Bool) (n : ℕ) → place_named is_kind proc.places n ≡ None → There all is_kind n → ⊥
    unnamed_is is_kind n e t = by (by_name is_kind n)
      where
        by : IsFound table start lines least proc.places is_kind n ⊎ IsMissing table start lines least proc.places is_kind n → ⊥
        by (inl r) = none_some r.place (sym e ∙ r.named)
        by (inr r) = r.none (found is_kind n all) t.among t.number t.kind

    -- what waits of temporaries
    typed_there : (node : ℕ) (ty : Ty) (w : Waiter) → waiting_as (known_in table) proc.places node ty ≡ true → waiter_at node b.own.waiters ≡ Some w
        → (type_at (types_in table) w.ty ≡ ty) × (is_known table w.ty K.Temp ≡ true)
    typed_there node ty w waits is_there =
        let r = typed_at table start lines (λ p. same (place_type (known_in table) p) ty) least most proc.places node w is.alone waits is_there in
        let p : FlatPlace = r.place in
        let temp : p.kind ≡ K.Temp = waits_temporary table start lines proc.places p node is.alone r.among r.waits in
        let h = home_at table start lines least proc.places p r.among in (
          ap (type_at (types_in table)) r.type_is
              ∙ (sym (ap (λ kind. type_by_kind kind (type_at (types_in table) p.ty)) temp)
              ∙ same_sound (place_type (known_in table) p) ty r.holds_is),
          ap₂ (λ ty kind. is_known table ty kind) (r.type_is ∙ sym h.type_is) (sym (h.kind ∙ temp)) ∙ known_here h.home h.among,
        )

    kept_there : (t node : ℕ) → waits_in (known_in table) proc.places t node ≡ true → There all is_value t → (found is_value t all).alias ≡ alias.Own
        → is_hooked table (found is_value t all).ty ≡ true → IsKeptAt table blocks b (found is_value t all) node
    kept_there t node waits there own hooks = by (by_name is_value t)
      where
        by : IsFound table start lines least proc.places is_value t ⊎ IsMissing table start lines least proc.places is_value t
            → IsKeptAt table blocks b (found is_value t all) node
        by (inr r) = absurd (r.none (found is_value t all) there.among there.number there.kind)
        by (inl r) =
            let given : r.place.waits ≡ Some node = node_of r.place.waits node (subst (λ o. if_waits node o ≡ true) r.named waits) in
            let among = place_among_named table start lines proc.places t r.place r.named in
            let kind : r.place.kind ≡ K.Temp = waits_temporary table start lines proc.places r.place node is.alone among given in
            let may : MayWait table start lines r.place node = record {
              kind = kind;
              alias = sym (ap (λ (z : Housed). z.alias) r.is) ∙ own;
              hooked = sym (ap (λ (z : Housed). is_hooked table z.ty) r.is) ∙ hooks;
              waits = given;
            } in
            let w = waiter_there table start lines least most proc.places r.place node is.alone among may in
            record {
              waiter = w.0;
              is = w.1;
              type_is = w.2 ∙ sym (ap (λ (z : Housed). z.ty) r.is);
              bytes = w.3 ∙ sym (ap (λ (z : Housed). z.bytes) r.is);
              kind = ap (λ (z : Housed). z.kind) r.is ∙ kind;
            }

    -- the kinds of a place are the same
    kind_same : (is : PlaceKind → Bool) → is K.Temp ≡ false → (n : ℕ)
        → if_kind is (place_named is_location proc.places n) ≡ is (found is_location n all).kind
    kind_same is temp n = by (by_name is_location n)
      where
        by : IsFound table start lines least proc.places is_location n ⊎ IsMissing table start lines least proc.places is_location n
            → if_kind is (place_named is_location proc.places n) ≡ is (found is_location n all).kind
        by (inl r) = ap (if_kind is) r.named ∙ sym (ap (λ (z : Housed). is z.kind) r.is)
        by (inr r) = ap (if_kind is) r.named ∙ sym (ap (λ (z : Housed). is z.kind) r.is ∙ temp)

    standing_same : (n : ℕ) → if_kind is_standing (place_named is_location proc.places n) ≡ is_standing (found is_location n all).kind
    standing_same n = kind_same is_standing refl n

    -- ---- other names

    temp_name : (h : Housed) → Among h all → is_value h.kind ≡ true
        → (h.alias ≡ alias.Own) ⊎ (h.alias ≡ alias_in value_to h.number lines)
    temp_name h i v = by h.kind v (named_so h i)
      where
        literal_name : (own_literal (homed lines) h.number (alias_in value_to h.number lines) ≡ alias.Own)
            ⊎ (own_literal (homed lines) h.number (alias_in value_to h.number lines) ≡ alias_in value_to h.number lines)
            → h.alias ≡ own_literal (homed lines) h.number (alias_in value_to h.number lines)
            → (h.alias ≡ alias.Own) ⊎ (h.alias ≡ alias_in value_to h.number lines)
        literal_name (inl own) e = inl (e ∙ own)
        literal_name (inr same) e = inr (e ∙ same)

        by : (kind : PlaceKind) → is_value kind ≡ true → h.alias ≡ alias_for kind h.number lines
            → (h.alias ≡ alias.Own) ⊎ (h.alias ≡ alias_in value_to h.number lines)
        by K.Temp v e = literal_name (own_or_literal (homed lines) h.number (alias_in value_to h.number lines)) e
        by K.Counter v e = inl e
        by kind v e = never v

    location_name : (h : Housed) → Among h all → is_location h.kind ≡ true → h.alias ≡ own_where (standing lines) (alias_in location_to h.number lines)
    location_name h i l = by h.kind l (named_so h i)
      where
        by : (kind : PlaceKind) → is_location kind ≡ true → h.alias ≡ alias_for kind h.number lines
            → h.alias ≡ own_where (standing lines) (alias_in location_to h.number lines)
        by K.Location l e = e
        by K.Within l e = e
        by kind l e = never l

    textual : (t : ℕ) → There all is_value t → Written (known_in table) (sigs table blocks) (globals_of table blocks) proc.places t
        (found is_value t all).alias → IsTextual table blocks (found is_value t all)
    textual t there w =
        let n = named_is is_value t w.ty w.value in
        record {
          behind = w.behind;
          bytes = w.bytes;
          is = w.is;
          kind = there.kind;
          look = ap (shape_of (facts_in table)) n.1 ∙ w.shape;
        }

    values_are : (t : ℕ) → There all is_value t → ((found is_value t all).alias ≡ alias.Own) ⊎ IsTextual table blocks (found is_value t all)
    values_are t there = by (temp_name h there.among there.kind)
      where
        h : Housed
        h = found is_value t all

        name : (h.alias ≡ alias_in value_to t lines)
            → (alias_in value_to t lines ≡ alias.Own)
            ⊎ Written (known_in table) (sigs table blocks) (globals_of table blocks) proc.places t (alias_in value_to t lines)
            → (h.alias ≡ alias.Own) ⊎ IsTextual table blocks h
        name e (inl own) = inl (e ∙ own)
        name e (inr w) =
            inr (textual t there (subst (Written (known_in table) (sigs table blocks) (globals_of table blocks) proc.places t) (sym e) w))

        by : (h.alias ≡ alias.Own) ⊎ (h.alias ≡ alias_in value_to h.number lines) → (h.alias ≡ alias.Own) ⊎ IsTextual table blocks h
        by (inl own) = inl own
        by (inr e) =
            name (e ∙ ap (λ n. alias_in value_to n lines) there.number)
            (value_name (known_in table) (sigs table blocks) (globals_of table blocks) proc.places t lines is.fits)

    -- what a line says of a location that is another name
    location_given : (t : ℕ) → There all is_location t → ((found is_location t all).alias ≡ alias.Own)
        ⊎ GivenBy (known_in table) (sigs table blocks) (globals_of table blocks) proc.places location_to t (found is_location t all).alias
    location_given t there =
        let h : Housed = found is_location t all in
        let e : h.alias ≡ own_where (standing lines) (alias_in location_to t lines) =
        location_name h there.among there.kind ∙ ap (λ n. own_where (standing lines) (alias_in location_to n lines)) there.number in
        by h.alias e (own_or_same (standing lines) (alias_in location_to t lines))
      where
        by : (a : Alias) → a ≡ own_where (standing lines) (alias_in location_to t lines)
            → (own_where (standing lines) (alias_in location_to t lines) ≡ alias.Own)
            ⊎ (own_where (standing lines) (alias_in location_to t lines) ≡ alias_in location_to t lines)
            → (a ≡ alias.Own) ⊎ GivenBy (known_in table) (sigs table blocks) (globals_of table blocks) proc.places location_to t a
        by a e (inl own) = inl (e ∙ own)
        by a e (inr same) =
            subst (λ a. (a ≡ alias.Own) ⊎ GivenBy (known_in table) (sigs table blocks) (globals_of table blocks) proc.places location_to t a)
            (sym (e ∙ same)) (given_by (known_in table) (sigs table blocks) (globals_of table blocks) proc.places location_to t lines is.fits)

    aliased_is : (t p : ℕ) (global : Bool) → There all is_location t → (found is_location t all).alias ≡ alias.Place p global
        → if_type_of (known_in table) (place_among table blocks b p global) ≡ Some (type_of table (found is_location t all))
    aliased_is t p global there e = by (location_given t there)
      where
        no_own : {A : Type 0} → alias.Own ≡ alias.Place p global → A
        no_own o = absurd cc

        place_is : (other : Bool) → (r : Rooted (known_in table) (sigs table blocks) (globals_of table blocks) proc.places t p other)
            → if_type_of (known_in table) (place_among table blocks b p other) ≡ Some r.ty
        place_is true r = r.place
        place_is false r = r.place

        by : ((found is_location t all).alias ≡ alias.Own)
            ⊎ GivenBy (known_in table) (sigs table blocks) (globals_of table blocks) proc.places location_to t (found is_location t all).alias
            → if_type_of (known_in table) (place_among table blocks b p global) ≡ Some (type_of table (found is_location t all))
        by (inl own) = no_own (sym own ∙ e)
        by (inr g) =
            let r = rooted (known_in table) (sigs table blocks) (globals_of table blocks) proc.places t p global
            (subst (GivenBy (known_in table) (sigs table blocks) (globals_of table blocks) proc.places location_to t) e g) in
            place_is global r ∙ ap Some (sym (named_is is_location t r.ty r.location).1)

    valued_is : (t u : ℕ) → There all is_location t → (found is_location t all).alias ≡ alias.Value u
        → (if_type_of (known_in table) (place_named is_value proc.places u) ≡ Some (type_of table (found is_location t all)))
        × (is_standing (found is_location t all).kind ≡ false)
    valued_is t u there e = by (location_given t there)
      where
        no_own : {A : Type 0} → alias.Own ≡ alias.Value u → A
        no_own o = absurd cc

        by : ((found is_location t all).alias ≡ alias.Own)
            ⊎ GivenBy (known_in table) (sigs table blocks) (globals_of table blocks) proc.places location_to t (found is_location t all).alias
            → (if_type_of (known_in table) (place_named is_value proc.places u) ≡ Some (type_of table (found is_location t all)))
            × (is_standing (found is_location t all).kind ≡ false)
        by (inl own) = no_own (sym own ∙ e)
        by (inr g) =
            let r = entered (known_in table) (sigs table blocks) (globals_of table blocks) proc.places t u
            (subst (GivenBy (known_in table) (sigs table blocks) (globals_of table blocks) proc.places location_to t) e g) in
            (r.value ∙ ap Some (sym (named_is is_location t r.ty r.location).1), sym (standing_same t) ∙ r.read_only)

    -- ---- declared places

    declared_found : (n : ℕ) (h : Housed) → Among h all → h.number ≡ n → is_declared h.kind ≡ true → found is_declared n all ≡ h
    declared_found n h i e d =
        one_found table start lines is_declared (λ kind k. k) proc.first (proc.first + proc.span) least proc.places n h is.order i e d

    own_found : (n : ℕ) (h : Housed) → Among h all → h.number ≡ n → is_own h.kind ≡ true → found is_own n all ≡ h
    own_found n h i e d = one_found table start lines is_own own_declared proc.first (proc.first + proc.span) least proc.places n h is.order i e d

    inside_is : (n : ℕ) → There all is_declared n → (proc.first ≤ n) × (n < proc.first + proc.span)
    inside_is n t =
        subst (λ z. (proc.first ≤ z) × (z < proc.first + proc.span)) t.number
        (numbers_within table start lines proc.first (proc.first + proc.span) least proc.places (found is_declared n all) is.order t.among t.kind)

    addressed_is : (n : ℕ) → is_among n (addressed lines) ≡ true → There all is_declared n → owns (found is_declared n all) ≡ true
        → InMemory (found is_declared n all).home
    addressed_is n r t o =
        let c = comes table start lines least proc.places (found is_declared n all) t.among in
        let e : c.1.number ≡ n = ap (λ (z : Housed). z.number) c.3 ∙ t.number in
        subst (λ (z : Housed). InMemory z.home) c.3
        (addressed_in_memory table start lines c.0 c.1 (ap (λ z. is_among z (addressed lines)) e ∙ r) (ap owns c.3 ∙ o))

    global_at : start ≡ true → (n : ℕ) (ty : Ty) → if_type_of (known_in table) (place_named is_global (globals_of table blocks) n) ≡ Some ty
        → IsGlobal table blocks b n ty
    global_at st n ty e =
        let r = named_is is_global n ty (ap (λ z. if_type_of (known_in table) (place_named is_global z n)) (sym (at_start.globals st)) ∙ e) in
        let h : Housed = found is_global n all in
        let declared : is_declared h.kind ≡ true = ap is_declared (global_is h.kind r.0.kind) in
        let d : found is_declared n all ≡ h = declared_found n h r.0.among r.0.number declared in
        let c = comes table start lines least proc.places h r.0.among in
        record {
          same = ap (λ (l : Layout). found is_global n l.all) (at_start.layout st) ∙ sym d;
          there = record {
            among = subst (λ z. Among z all) (sym d) r.0.among;
            number = ap (λ (z : Housed). z.number) d ∙ r.0.number;
            kind = ap (λ (z : Housed). is_declared z.kind) d ∙ declared;
          };
          typed = ap (type_of table) d ∙ r.1;
          datum = c.0.datum;
          home = ap (λ (z : Housed). z.home) (d ∙ sym c.3) ∙ global_home table start lines c.0 c.1 st (ap (λ (z : Housed). is_global z.kind) c.3 ∙ r.0.kind);
          own = ap owns d ∙ ap (λ k. is_own k && not (address_by h.lent k)) (global_is h.kind r.0.kind);
        }

    result_by : ((result_at (known_in table) proc.places ≡ None) × (result_in all ≡ None)) ⊎ ResultAt table start lines least proc.places
        → ResultIs table blocks all (result_at (known_in table) proc.places) (result_in all)
    result_by (inl r) = subst (λ z. ResultIs table blocks all z (result_in all)) (sym r.0) r.1
    result_by (inr r) =
        let d : found is_declared r.place.number all ≡ r.place = declared_found r.place.number r.place r.among refl (ap is_declared r.kind) in
        let o : found is_own r.place.number all ≡ r.place = own_found r.place.number r.place r.among refl (ap is_own r.kind) in
        let there : There all is_own r.place.number = record {
          among = subst (λ z. Among z all) (sym o) r.among;
          number = ap (λ (z : Housed). z.number) o;
          kind = ap (λ (z : Housed). is_own z.kind) o ∙ ap is_own r.kind;
        } in
        subst (λ z. ResultIs table blocks all z (result_in all)) (sym r.number)
        (r.is ∙ ap Some (sym d), there, ap owns d ∙ ap (λ k. is_own k && not (address_by r.place.lent k)) r.kind)

    once_is : (name : ℕ) (before after there : List BlockLine) → proc.lines ≡ before ++ after → from_label block_label name after ≡ Some there
        → from_label block_label name proc.lines ≡ Some there
    once_is name before after there whole e =
        ap (from_label block_label name) whole
        ∙ first_one before after name there (subst (λ ls. labels_once (map block_plain ls) ≡ true) whole is.once) e

    pub is_body : IsBody table blocks (body_at start proc literals number)
    is_body = record {
      named = named_is;
      unnamed = unnamed_is;
      housed = housed_is;
      named_so = named_so;
      values = values_are;
      places = places_are;
      locations = λ t there. place_numbers table is_table have (found is_location t all).kind (found is_location t all).ty;
      plain_locations = λ t there. place_unhooked table is_table have (found is_location t all).kind (found is_location t all).ty;
      known = known_here;
      handles = λ h i. place_built table is_table have h.kind h.ty (known_here h i);
      words = λ h i. place_is_word table is_table have h.kind h.ty (place_built table is_table have h.kind h.ty (known_here h i));
      entered = λ t u there e.
          entered_plain table all t u (standing lines) lines is.may
          (still_value (standing lines) (alias_in location_to t lines) u
          (sym (location_name (found is_location t all) there.among there.kind
          ∙ ap (λ n. own_where (standing lines) (alias_in location_to n lines)) there.number)
          ∙ e));
      built = λ h i hooks. (place_built table is_table have h.kind h.ty (known_here h i), place_many table is_table have h.kind h.ty hooks);
      aliased = aliased_is;
      valued = valued_is;
      standing = λ n h. sym (standing_same n) ∙ h;
      may_be_standing = λ n h. standing_same n ∙ h;
      apart = all_apart table start lines least proc.places;
      inside = inside_is;
      own = λ n t. sym (declared_found n (found is_own n all) t.among t.number (own_declared (found is_own n all).kind t.kind));
      addressed = addressed_is;
      global = global_at;
      fits = is.fits;
      may = is.may;
      once = once_is;
      labels = is.labels;
      result = result_by (result_cases table start lines least proc.places);
      rightly = is.rightly;
      kept_at = kept_there;
      typed_at = typed_there;
      waiting = are_waiters table blocks is_table have (λ ty h. type_many table is_table have ty h) start proc literals number;
      room_whole = room_whole_behind table start lines least most proc.places (room_whole table start lines least proc.places refl);
      room_most = is.room;
      handed = λ h at e home.
          let ends = is.handed in
          let same : result_end (result_in all) ≡ at + h.bytes = ap result_end e ∙ ap (λ z. placed_end z h.bytes) home in
          omega (arith, ends, same);
      texts = texts;
    }
