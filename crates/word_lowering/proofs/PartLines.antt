-- Lines that lead to a part of what stands at a location are followed.
use Rattle.std.proofs.Common.{inr, ◌≡◌, ℕ, ◌+◌, ◌^◌, ◌<◌, ◌≤◌, List, [], ◌∷◌, ◌++◌, Some, true, refl, sym, ap, subst, ◌∙◌, arith, inl, Bool, false}
use Rattle.std.specs.Prelude.{◌&&◌, not}
use Rattle.nim_meaning.specs.Values.{Value, deeper, part}
use Rattle.nim_meaning.specs.LeftOut.{is_exception_type}
use Rattle.flat_code.specs.declared.block.BlockLine.{BlockLine}
use Rattle.flat_code.specs.declared.line.Line.TheVariants as L
use Rattle.flat_code.specs.declared.place.PlaceKind.TheVariants as K
use Rattle.flat_code.specs.Fits.{is_standing, if_kind, is_location, place_named, same_bool, type_by_kind}
use Rattle.flat_code.specs.Scene.{Where, Located, Within, Temps, with_place, location_at, led, Passes}
use Rattle.flat_code.specs.Lines.{leads, is_there}
use Rattle.flat_code.specs.Shapes.{parts, Shape, Shapes, shape_of}
use Rattle.word_code.specs.declared.word.WordInstr.{WordInstr}
use Rattle.word_code.specs.declared.word.WordInstr.TheVariants.{Place, Datum}
use Rattle.word_code.specs.Words.{put}
use Rattle.word_lowering.specs.declared.homes.Home.{Home}
use Rattle.word_lowering.specs.declared.homes.Home.TheVariants.{Variable, Placed, Static}
use Rattle.word_lowering.specs.declared.homes.Alias.TheVariants as alias
use Rattle.word_lowering.specs.LineCode.{named, location, part_code, variable_in, variable_of}
use Rattle.word_lowering.specs.Layouts.{holds_address}
use Rattle.word_code.proofs.ForCallers.{at, Runs, run_place, run_datum}
use Rattle.nim_meaning.specs.Deeds.{Answers}
use Rattle.nim_meaning.specs.State.{World}
use Rattle.word_lowering.proofs.Blocks.{Blocks}
use Rattle.word_lowering.proofs.BlockPaths.{LeadsInBlock}
use Rattle.word_lowering.proofs.ControlLines.{plain, FollowedHere}
use Rattle.word_lowering.proofs.Gets.{high_variable}
use Rattle.word_lowering.proofs.Keeping.{call, location_address}
use Rattle.word_lowering.proofs.LeadLines.{good_led}
use Rattle.word_lowering.proofs.Lines.{Basis, IsGood, Settles, all_procs, all_sites, changed, goes_on, stands_next, starts, fits_here, using_settles}
use Rattle.word_lowering.proofs.Moves.{all_same}
use Rattle.word_lowering.proofs.OpRuns.{gives_sum}
use Rattle.word_lowering.proofs.OperationRuns.{Given}
use Rattle.word_lowering.proofs.OrdinalRuns.{but_one, put_here}
use Rattle.word_lowering.proofs.OutPlaces.{written_at, written_stands}
use Rattle.word_lowering.proofs.ReadFacts.{data_near, owned_near, value_near, waiting_near}
use Rattle.word_lowering.proofs.Related.{Both, body_of, within, high}
use Rattle.word_lowering.proofs.Scenes.{is_fixed, reached_so, Ground, Leads, Reaches, Stood, IsLedBy, IsNamed, IsThere, Points, house, looked, of_location}
use Rattle.word_lowering.proofs.Scenes.{of_place}
use Rattle.word_lowering.proofs.Scenes.{of_value, of_waiting}
use Rattle.word_lowering.proofs.Settling.{code_here, code_next, LabelsLead}
use Rattle.word_lowering.proofs.ShapeFacts.{never, shape_bytes, nth_shape, of_numbers}
use Rattle.word_lowering.proofs.ShapePaths.{Step, path_on, shape_some, shapes_before, step_within}
use Rattle.word_lowering.proofs.Sites.{Housing, Site, by_address, data_end, in_data, in_places, in_variable, room, around, is_one_word}
use Rattle.word_lowering.proofs.SitesApart.{houses, variables_apart}
use Rattle.word_lowering.specs.declared.homes.TheConstants.{OWN_FROM}
use Rattle.word_lowering.specs.declared.texts.TheConstants.{FIXED_BYTES}
use Rattle.nim_program.specs.Kinds.{TypeKind, field_at, is_of, kind_if, kind_of}
use Rattle.nim_types.specs.Table.{facts_in, type_at, types_in}
use Rattle.std.proofs.lemmas.Bool.{and_parts}
use Rattle.word_lowering.proofs.LineFits.{are_of, some_kind}
use Rattle.word_lowering.proofs.Targets.{location_alias, own_alias, pointed}
use Rattle.word_lowering.proofs.ValueFacts.{type_in, with_home, has_type, homed_plain, location_of_numbers, IsHomed}
use Rattle.flat_code.specs.Running.{scene_of}
use Rattle.flat_code.specs.declared.place.PlaceKind.{PlaceKind}
use Rattle.nim_meaning.specs.Places.{to_part}
use Rattle.nim_types.specs.Types.{Ty}
use Rattle.word_lowering.proofs.AddressFacts.{at_homed}
use Rattle.word_lowering.proofs.LocationHouses.{homed_house}
use Rattle.word_lowering.specs.Stored.{part_at}
use Rattle.word_lowering.proofs.HookedMoves.{BitsHere}
use Rattle.word_lowering.proofs.BlankShapes.{of_handles}
use Rattle.word_lowering.proofs.FixedParts.{fixed_step}
use Rattle.word_lowering.proofs.FixedValues.{FixedAt}
use Rattle.word_lowering.proofs.StoredParts.{part_last}

-- ---- a step further from a location

abbrev pub deeper_in : Temps → Where → ℕ → Where
deeper_in temps there i = led there (deeper (location_at temps there) i)

-- a step further in a block
block_on : (d : Blocks) (block : ℕ) (path : List ℕ) (a o : ℕ) (t u : Shape) (i : ℕ) → Step t i o u → LeadsInBlock d block path a t
    → LeadsInBlock d block (path ++ i ∷ []) (a + o) u
block_on d block path a o t u i step l = record {
  element = l.element;
  rest = l.rest ++ i ∷ [];
  of = l.of;
  offset = l.offset + o;
  is = ap (λ p. p ++ i ∷ []) l.is;
  born = l.born;
  inside = l.inside;
  way = path_on l.of l.rest l.offset t i o u l.way step;
  address = λ x e. let h = l.address x e in omega (arith, h);
}

-- with other temporaries that still have their values
module _ (x : Basis) (sites : List Site) (s : Site) (ground : Ground) (world : World) (temps other : Temps)
    (still : (t : ℕ) (v : Value) → temps.values t ≡ Some v → other.values t ≡ Some v) where
  pub leads_on : (there : Where) (a o : ℕ) (t u : Shape) (i : ℕ) → Step t i o u → Leads x.table x.blocks sites ground world s temps there a t
      → Leads x.table x.blocks sites ground world s other (deeper_in temps there i) (a + o) u
  leads_on (Located l) a o t u i step (inl f) = inl (record {
    site = f.site;
    among = f.among;
    number = f.number;
    base = f.base;
    filled = f.filled;
    there = f.there;
    home = f.home;
    offset = f.offset + o;
    path = path_on (looked x.table f.site (of_place f.number)) l.path f.offset t i o u f.path step;
    address = (let e = f.address in omega (arith, e));
  })
  leads_on (Located l) a o t u i step (inr (inr (inl f))) = inr (inr (inl (record {
    block = f.block;
    base = f.base;
    leads = block_on ground.blocks f.block l.path a o t u i step f.leads;
    near = (let n = f.near in let w = step_within t i o u step in omega (arith, n, w));
  })))
  leads_on (Located l) a o t u i step (inr (inr (inr f))) = inr (inr (inr (record {
    site = f.site;
    among = f.among;
    node = f.node;
    base = f.base;
    there = f.there;
    offset = f.offset + o;
    path = path_on (looked x.table f.site (of_waiting f.node)) l.path f.offset t i o u f.path step;
    address = (let e = f.address in omega (arith, e));
  })))
  leads_on (Located l) a o t u i step (inr (inl (inr f))) = inr (inl (inr (record {
    value = f.value;
    base = f.base;
    stands = subst (FixedAt (is_fixed ground) (a + o) u) (sym (part_last f.value l.path i))
        (fixed_step (is_fixed ground) a t (part f.value l.path) i o u step f.stands);
    near = (let n = f.near in let w = step_within t i o u step in omega (arith, n, w));
  })))
  leads_on (Located l) a o t u i step (inr (inl (inl f))) = inr (inl (inl (record {
    pieces = f.pieces;
    plain = f.plain;
    one = f.one;
    among = f.among;
    base = f.base;
    shape = f.shape;
    shaped = f.shaped;
    numbers = f.numbers;
    offset = f.offset + o;
    path = path_on f.shape l.path f.offset t i o u f.path step;
    address = (let e = f.address in omega (arith, e));
  })))
  leads_on (Within from path) a o t u i step f = record {
    there = f.there;
    home = f.home;
    offset = f.offset + o;
    leads = path_on (looked x.table s (of_value from)) path f.offset t i o u f.leads step;
    address = (let e = f.address in omega (arith, e));
    lasting = f.lasting;
    value = f.value;
    has = still from f.value f.has;
  }

module _ (x : Basis) (g : Both) (line : BlockLine) (rest : List BlockLine) (y : IsGood x (starts g line rest)) where
  abbrev pub led_variable : ℕ → ℕ
  led_variable t = variable_of (house g.call.site (of_location t))

  pub leads_near : (there : Where) (a : ℕ) (t : Shape)
      → Leads x.table x.blocks (all_sites x g line rest y) g.ground g.world g.call.site g.call.temps there a t → a + shape_bytes t < 2 ^ 32
  leads_near (Located l) a t (inr (inr (inl f))) = f.near
  leads_near (Located l) a t (inr (inr (inr f))) = waiting_near x (all_sites x g line rest y) y.linked l a t f
  leads_near (Located l) a t (inr (inl f)) = data_near x g.ground l a t f
  leads_near (Located l) a t (inl f) = owned_near x (all_sites x g line rest y) y.linked g.ground g.world l a t (inl f)
  leads_near (Within from path) a t f = value_near x (all_sites x g line rest y) y.linked g.call.site g.call.temps from path a t (inl refl) f

  pub own_location : (t : ℕ) → IsThere g.call.site (of_location t)
      → location (around x.table x.blocks (body_of g)) t ≡ house g.call.site (of_location t)
  own_location t there = ap (λ b. named (around x.table x.blocks (body_of g)) b (house g.call.site (of_location t))) there.own

  -- the variable of a location that is no other name
  pub record LedHome (t : ℕ) : Type 0 where
    pub home : (house g.call.site (of_location t)).home ≡ Variable (led_variable t)
    pub high_is : OWN_FROM ≤ led_variable t

  pub led_home : (t : ℕ) → IsThere g.call.site (of_location t) → LedHome t
  led_home t there = by (houses x.table x.blocks g.call.site (of_location t) y.linked.0 there).where_is
    where
      is : holds_address (house g.call.site (of_location t)) ≡ true
      is = location_address (house g.call.site (of_location t)) there.kind

      by : Housing (room (body_of g)) FIXED_BYTES (data_end x.table x.blocks) (body_of g).start (house g.call.site (of_location t)) → LedHome t
      by (in_variable v e plain least w) = never (sym plain ∙ is)
      by (by_address v e k least) = record {
        home = e ∙ ap Variable (sym (ap variable_in e));
        high_is = subst (λ u. OWN_FROM ≤ u) (sym (ap variable_in e)) least;
      }
      by (in_places n e plain whole within) = never (sym plain ∙ is)
      by (in_data n e plain whole least within start) = never (sym plain ∙ is)

  -- a run that gives the address
  pub leads_settles : (t : ℕ) (there : Where) (a work : ℕ) → 1 ≤ work → IsThere g.call.site (of_location t)
      → (is_standing (house g.call.site (of_location t)).kind ≡ true → Stood there)
      → Reaches x.table x.blocks (all_sites x g line rest y) g.ground g.world g.call.site (with_place t g.call.temps there) there a
      (looked x.table g.call.site (of_location t))
      → Given x.live (all_procs x) (within x.table x.blocks g) g.memory g.words (code_here x g line rest y) g.call.vars (led_variable t) a
      (code_next x g line rest y)
      → Settles x (starts g line rest) rest (Passes (Answers [] work (with_place t g.call.temps there) g.world))
  leads_settles t there a work some is_there standing new_leads r =
      let h = led_home t is_there in
      goes_on x (starts g line rest) (changed g rest (with_place t g.call.temps there) r.gives.vars g.memory g.words g.awaits g.world) rest
      (good_led x g line rest y t there r.gives.vars
      (λ f u other ne home. r.gives.but.others u (high_variable x g line rest y f u other home)
      (variables_apart x.table x.blocks g.call.site (of_location t) f (led_variable t) u y.linked.0 is_there other (λ s. ne (sym s)) h.home home))
      r.gives.but.left
      (subst (λ b. IsLedBy x.table x.blocks b (all_sites x g line rest y) g.ground g.world (call g.call.site (with_place t g.call.temps there) r.gives.vars)
      t there)
      (sym is_there.own) (record { standing = standing; address = a; holds = r.gives.given; leads = new_leads }))
      rest (stands_next x.table x.blocks (body_of g) line rest y.stands))
      r.steps work (with_place t g.call.temps there) g.world r.gives.runs r.some (let f = r.few in omega (arith, f, some)) refl

  -- an address and an offset
  pub part_given : (to o a : ℕ) (home : Home) → OWN_FROM ≤ to → Points g.call.site.base g.call.vars home a → a + o < 2 ^ 32 → (k : List WordInstr)
      → Given x.live (all_procs x) (within x.table x.blocks g) g.memory g.words (part_code to home o k) g.call.vars to (a + o) k
  part_given to o a (Variable v) least points near k = record {
    steps = 1;
    some = omega arith;
    few = omega arith;
    gives = gives_sum x.live (all_procs x) (within x.table x.blocks g) g.memory g.words k g.call.vars to (a + o) least near v o a points refl;
  }
  part_given to o a (Placed n) least points near k = record {
    steps = 1;
    some = omega arith;
    few = omega arith;
    gives = record {
      vars = put g.call.vars to (a + o);
      given = put_here g.call.vars to (a + o) near;
      but = but_one g.call.vars g.call.vars to (a + o) least (all_same g.call.vars);
      runs = subst (λ r. Runs x.live (all_procs x) 1 (at (within x.table x.blocks g) g.memory (Place to (n + o) ∷ k) g.call.vars g.words)
          (at (within x.table x.blocks g) g.memory k (put g.call.vars to r) g.words)) (omega (arith, points))
          (run_place x.live (all_procs x) (within x.table x.blocks g) g.memory k g.call.vars g.words to (n + o));
    };
  }
  part_given to o a (Static n) least points near k = record {
    steps = 1;
    some = omega arith;
    few = omega arith;
    gives = record {
      vars = put g.call.vars to (a + o);
      given = put_here g.call.vars to (a + o) near;
      but = but_one g.call.vars g.call.vars to (a + o) least (all_same g.call.vars);
      runs = subst (λ r. Runs x.live (all_procs x) 1 (at (within x.table x.blocks g) g.memory (Datum to (n + o) ∷ k) g.call.vars g.words)
          (at (within x.table x.blocks g) g.memory k (put g.call.vars to r) g.words)) (omega (arith, points))
          (run_datum x.live (all_procs x) (within x.table x.blocks g) g.memory k g.call.vars g.words to (n + o));
    };
  }

  -- where a part of what may be written stands, that may be written too
  pub part_standing : (to from i : ℕ) (there : Where) → IsNamed g.call.site (of_location from) → g.call.temps.places from ≡ Some there
      → (is_standing (house g.call.site (of_location to)).kind ≡ true → is_standing (house g.call.site (of_location from)).kind ≡ true)
      → is_standing (house g.call.site (of_location to)).kind ≡ true
      → Stood (deeper_in g.call.temps there i)
  part_standing to from i there n e as_base standing =
      let w = written_at x g line rest y from there n (as_base standing) e in
      subst (λ t. Stood (deeper_in g.call.temps t i)) (sym w.is) (written_stands x g line rest y w.written)

-- ---- a field

pub by_kind : (k : PlaceKind) (t : Ty) → is_location k ≡ true → type_by_kind k t ≡ t
by_kind K.Temp t h = refl
by_kind K.Location t h = refl
by_kind K.Within t h = refl
by_kind K.Counter t h = never h
by_kind K.Local t h = refl
by_kind K.Cursor t h = refl
by_kind K.Result t h = refl
by_kind (K.Param mode) t h = refl
by_kind K.ForVar t h = refl
by_kind K.Caught t h = refl
by_kind K.Global t h = refl

pub same_bool_true : (b c : Bool) → same_bool b c ≡ true → b ≡ true → c ≡ true
same_bool_true true c h e = h
same_bool_true false c h e = never e

module _ (x : Basis) (labels : LabelsLead x) (g : Both) (rest : List BlockLine) (to from field : ℕ) where
  abbrev part_here : BlockLine
  part_here = plain (L.Part to from field)

  -- what has fields has parts of their shapes
  abbrev HasFields : Type 0
  HasFields = (n : ℕ) (of : Ty) → field_at (kind_of (facts_in x.table) (type_at (types_in x.table) n)) field ≡ Some of
      → IsNamed g.call.site (of_location from) → IsNamed g.call.site (of_location to)
      → looked x.table g.call.site (of_location from) ≡ shape_of (facts_in x.table) (type_at (types_in x.table) n)
      → looked x.table g.call.site (of_location to) ≡ shape_of (facts_in x.table) of
      → (all : Shapes) × (shape_of (facts_in x.table) (type_at (types_in x.table) n) ≡ parts all)
      × (nth_shape all field ≡ Some (shape_of (facts_in x.table) of))

  part_with : (IsNamed g.call.site (of_location from) → IsHomed x g.call.site from) → HasFields → BitsHere x g rest part_here
  part_with homed has_fields y =
      let from_kind : TypeKind = kind_if (facts_in x.table) (type_in x is_location (body_of g) from) in
      let to_may : Bool = if_kind is_standing (place_named is_location (body_of g).proc.places to) in
      let from_may : Bool = if_kind is_standing (place_named is_location (body_of g).proc.places from) in
      let has_parts : Bool = not (is_exception_type (type_in x is_location (body_of g) from)) in
      let f = and_parts (is_of (type_in x is_location (body_of g) to) (field_at from_kind field)) (same_bool to_may from_may && has_parts)
      (fits_here x.table x.blocks (body_of g) part_here rest y.stands) in
      let v = are_of (type_in x is_location (body_of g) to) (field_at from_kind field) f.0 in
      let s = some_kind (facts_in x.table) (type_in x is_location (body_of g) from) (λ k. is_of (Some v.ty) (field_at k field)) refl
      (subst (λ o. is_of o (field_at from_kind field) ≡ true) v.is f.0) in
      let z = are_of (Some v.ty) (field_at (kind_of (facts_in x.table) s.0) field) s.2 in
      let p = pointed x g part_here rest y from s.0 s.1 in
      let q = pointed x g part_here rest y to v.ty v.is in
      let n : ℕ = (house g.call.site (of_location from)).ty in
      let typed = has_type x g.call.site (of_location from) s.0 y.linked.0 s.1 in
      let of_table : s.0 ≡ type_at (types_in x.table) n
      = sym typed.typed ∙ by_kind (house g.call.site (of_location from)).kind (type_at (types_in x.table) n) p.named.kind in
      let field_is : field_at (kind_of (facts_in x.table) (type_at (types_in x.table) n)) field ≡ Some v.ty
      = ap (λ u. field_at (kind_of (facts_in x.table) u) field) (sym of_table) ∙ (z.is_other ∙ sym z.is) in
      let look_is : looked x.table g.call.site (of_location from) ≡ shape_of (facts_in x.table) (type_at (types_in x.table) n)
      = p.look ∙ ap (shape_of (facts_in x.table)) of_table in
      let whole = has_fields n v.ty field_is p.named q.named look_is q.look in
      let there_to : IsThere g.call.site (of_location to) = with_home x q.named
      (own_alias (house g.call.site (of_location to)).alias (location_alias x g part_here rest y to alias.Own refl refl)) tt in
      using_settles x (starts g part_here rest) rest (g.call.temps.places from)
      (λ there. leads (scene_of (high x.table x.blocks (starts g part_here rest))) to there (to_part (location_at g.call.temps there) field))
      (λ there e. part_of y there e p.named (homed p.named) there_to whole.0 (look_is ∙ whole.1) (whole.2 ∙ ap Some (sym q.look))
      (λ st. y.linked.0.standing from (same_bool_true to_may from_may (and_parts (same_bool to_may from_may) has_parts f.1).0
      (y.linked.0.may_be_standing to st))))
    where
      part_of : (y : IsGood x (starts g part_here rest)) (there : Where) → g.call.temps.places from ≡ Some there → IsNamed g.call.site (of_location from)
          → IsHomed x g.call.site from → IsThere g.call.site (of_location to) → (all : Shapes) →
          looked x.table g.call.site (of_location from) ≡ parts all
          → nth_shape all field ≡ Some (looked x.table g.call.site (of_location to))
          → (is_standing (house g.call.site (of_location to)).kind ≡ true → is_standing (house g.call.site (of_location from)).kind ≡ true)
          → Settles x (starts g part_here rest) rest
          (leads (scene_of (high x.table x.blocks (starts g part_here rest))) to there (to_part (location_at g.call.temps there) field))
      part_of y there e named_from homed_from there_to all look nth as_base =
          let a = at_homed x g part_here rest y from there named_from homed_from e (ap is_one_word look) in
          let h = homed_house x g part_here rest y from there named_from homed_from e in
          let o : ℕ = shapes_before all field in
          let at_is : part_at x.table (location (around x.table x.blocks (body_of g)) from).ty field ≡ o
          = h.housed.fields all field (looked x.table g.call.site (of_location to)) (ap (shape_of (facts_in x.table)) h.typed ∙ look) nth in
          let step : Step (looked x.table g.call.site (of_location from)) field o (looked x.table g.call.site (of_location to))
          = subst (λ k. Step k field o (looked x.table g.call.site (of_location to))) (sym look) (nth, refl) in
          let inner = step_within (looked x.table g.call.site (of_location from)) field o (looked x.table g.call.site (of_location to)) step in
          let near = leads_near x g part_here rest y there a.address (looked x.table g.call.site (of_location from)) a.leads_to in
          let some = shape_some (looked x.table g.call.site (of_location to)) in
          let b = led_home x g part_here rest y to there_to in
          leads_settles x g part_here rest y to (deeper_in g.call.temps there field) (a.address + o) 1 (omega arith) there_to
          (part_standing x g part_here rest y to from field there named_from e as_base)
          (reached_so x.table x.blocks (all_sites x g part_here rest y) g.ground g.world g.call.site
          (with_place to g.call.temps (deeper_in g.call.temps there field)) (deeper_in g.call.temps there field) (a.address + o)
          (looked x.table g.call.site (of_location to))
          (leads_on x (all_sites x g part_here rest y) g.call.site g.ground g.world g.call.temps
          (with_place to g.call.temps (deeper_in g.call.temps there field))
          (λ t v h. h) there a.address o
          (looked x.table g.call.site (of_location from)) (looked x.table g.call.site (of_location to)) field step a.leads_to))
          (subst (λ l. Given x.live (all_procs x) (within x.table x.blocks g) g.memory g.words l g.call.vars (led_variable x g part_here rest y to)
          (a.address + o) (code_next x g part_here rest y))
          (sym (ap (λ u. part_code (variable_of u) (location (around x.table x.blocks (body_of g)) from).home
          (part_at x.table (location (around x.table x.blocks (body_of g)) from).ty field) (code_next x g part_here rest y))
          (own_location x g part_here rest y to there_to)
          ∙ (ap (λ u. part_code (led_variable x g part_here rest y to) u (part_at x.table (location (around x.table x.blocks (body_of g)) from).ty field)
          (code_next x g part_here rest y)) a.home_is ∙ ap (λ n. part_code (led_variable x g part_here rest y to) a.home n (code_next x g part_here rest
          y)) at_is)))
          (part_given x g part_here rest y (led_variable x g part_here rest y to) o a.address a.home b.high_is a.points
          (omega (arith, near, inner, some)) (code_next x g part_here rest y)))

  pub part_line : FollowedHere x labels g rest (L.Part to from field)
  part_line names y =
      part_with (λ n. homed_plain x g.call.site from y.linked.0 n names.1.0)
      (λ n of is named_from named_to look look_to. x.fields n field of is
      (sym (ap of_numbers look) ∙ location_of_numbers x g.call.site from y.linked.0 named_from names.1.0)
      (sym (ap of_numbers look_to) ∙ location_of_numbers x g.call.site to y.linked.0 named_to names.0)) y

  pub part_bits : IsHomed x g.call.site from → of_handles (looked x.table g.call.site (of_location from)) ≡ true
      → is_one_word (looked x.table g.call.site (of_location from)) ≡ false → BitsHere x g rest part_here
  part_bits homed handles many y =
      part_with (λ n. homed) (λ n of is named_from named_to look look_to. x.built_fields n field of is (sym (ap of_handles look) ∙ handles)
      (sym (ap is_one_word look) ∙ many)) y
