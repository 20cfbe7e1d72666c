-- What is known of a sequence that a row changes or makes: its type, and where its handle stands.
use Rattle.std.proofs.Common.{◌≡◌, ℕ, List, map, length, Option, Some, None, true, false, refl, sym, ap, subst, ◌∙◌, arith, suc, ◌≤◌}
use Rattle.std.specs.Prelude.{nat_lt, not, nat_le}
use Rattle.word_lowering.proofs.Targets.{AmongFrom, home_of_value, own_either, value_alias}
use Rattle.nim_meaning.specs.Places.{may_change}
use Rattle.word_lowering.proofs.Lines.{Basis, IsGood, all_sites, known, starts}
use Rattle.flat_code.specs.declared.block.BlockLine.{BlockLine}
use Rattle.word_lowering.proofs.Blocks.{Blocks, Stored}
use Rattle.word_lowering.proofs.Related.{Both, body_of}
use Rattle.nim_types.specs.Types.{Fact, Facts, Ty, members, fields, base, below, fact_of}
use Rattle.nim_meaning.specs.Values.{Fixed, Gone, Handle, Location, Number, Parts, Ref, Resource, Vacant, Value, blank}
use Rattle.word_lowering.proofs.Scenes.{FromOwned, IsThere, house, is_fixed, looked, of_location, of_value}
use Rattle.word_lowering.proofs.ValueFacts.{HasType, has_type, look_of, type_in, with_home}
use Rattle.word_lowering.proofs.GoodHomes.{HomeOf, good_homes, homes_apart}
use Rattle.word_lowering.specs.declared.homes.Housed.{Housed}
use Rattle.word_lowering.proofs.SequenceTypes.{IsSequence, SequencesKnown, is_seq}
use Rattle.word_code.specs.Memory.{Memory}
use Rattle.word_lowering.proofs.OwnedHandles.{no_constant, OwnedAt, owned_at}
use Rattle.flat_code.specs.declared.place.PlaceKind.{PlaceKind}
use Rattle.word_lowering.proofs.SequencesThere.{SequenceThere}
use Rattle.flat_code.specs.Shapes.{Shape, block, elements, shape_of}
use Rattle.nim_program.specs.Traps.{Trap}
use Rattle.word_lowering.proofs.Settling.{TrapStops}
use Rattle.nim_types.specs.declared.types.TypeDef.{TypeDef}
use Rattle.flat_code.specs.Scene.{Where, location_at}
use Rattle.word_code.specs.RoutineTable.{ZeroWords}
use Rattle.word_lowering.specs.Aliases.{alias_by, texts_of, value_to}
use Rattle.std.proofs.lemmas.Bool.{and_parts, not-true, leb-true}
use Rattle.word_lowering.proofs.Sites.{around, globals_of, sigs, type_of}
use Rattle.flat_code.specs.Codes.{block_plain}
use Rattle.nim_program.specs.Kinds.{declared_kind, is_sequence, kind_if, kind_of}
use Rattle.nim_types.specs.Table.{facts_in, type_at, types_in}
use Rattle.nim_types.specs.Forms.{form_of, levels}
use Rattle.word_lowering.proofs.HouseHooks.{homed}
use Rattle.word_lowering.specs.MayLower.{homed_by, is_known}
use Rattle.word_lowering.proofs.LocationHouses.{homed_house}
use Rattle.flat_code.specs.Fits.{is_location, is_value, type_by_kind}
use Rattle.nim_meaning.specs.State.{is_seen, is_there, is_whole, load}
use Rattle.nim_meaning.specs.Unbuilt.{is_unbuilt}
use Rattle.word_lowering.specs.Operands.{location}
use Rattle.word_lowering.proofs.ShapeFacts.{never, shape_bytes}
use Rattle.word_lowering.proofs.GoodLeads.{owned_to}
use Rattle.word_lowering.proofs.BlockHomes.{read_at}
use Rattle.word_lowering.proofs.BlankShapes.{zeros_stored}
use Rattle.nim_types.specs.Types as type
use Rattle.flat_code.specs.declared.place.PlaceKind.TheVariants as K
use Rattle.word_lowering.specs.declared.homes.Alias.TheVariants as alias
use Rattle.flat_code.specs.Fits as fit

-- ---- types

declared_none : (o : Option Fact) → is_sequence (declared_kind o) ≡ true → ⊥
declared_none None h = never h
declared_none (Some (members names)) h = never h
declared_none (Some (fields all resource)) h = never h
declared_none (Some (base t)) h = never h
declared_none (Some (below parent)) h = never h

sequence_type : (facts : Facts) (ty : Ty) → is_sequence (kind_of facts ty) ≡ true → (e : Ty) × (ty ≡ type.sequence e)
sequence_type facts (type.sequence e) h = (e, refl)
sequence_type facts type.int h = never h
sequence_type facts type.bool h = never h
sequence_type facts type.char h = never h
sequence_type facts type.text h = never h
sequence_type facts (type.array n t) h = never h
sequence_type facts (type.tuple names ts) h = never h
sequence_type facts (type.parameter n) h = never h
sequence_type facts (type.ref name t) h = never h
sequence_type facts (type.enum key) h = absurd (declared_none (fact_of facts (type.enum key)) h)
sequence_type facts (type.object key arguments) h = absurd (declared_none (fact_of facts (type.object key arguments)) h)
sequence_type facts (type.distinct key) h = absurd (declared_none (fact_of facts (type.distinct key)) h)
sequence_type facts (type.exception key) h = absurd (declared_none (fact_of facts (type.exception key)) h)

pub sequence_some : (facts : Facts) (o : Option Ty) → is_sequence (kind_if facts o) ≡ true → (e : Ty) × (o ≡ Some (type.sequence e))
sequence_some facts None h = never h
sequence_some facts (Some ty) h = let s = sequence_type facts ty h in (s.0, ap Some s.1)

-- a number that a loop keeps is none
pub sequence_by : (kind : PlaceKind) (t e : Ty) → type_by_kind kind t ≡ type.sequence e → t ≡ type.sequence e
sequence_by K.Counter t e is = never (ap is_seq is)
sequence_by kind t e is = is

elements_built : (table : List TypeDef) (kind : PlaceKind) (ty : ℕ) (e : Ty) → is_known table ty kind ≡ true
    → type_by_kind kind (type_at (types_in table) ty) ≡ type.sequence e → is_unbuilt (facts_in table) e ≡ false
elements_built table K.Counter ty e h is = never (ap is_seq is)
elements_built table kind ty e h is =
    let q = and_parts (nat_lt ty (length table)) _ h in
    let r = and_parts (not (is_unbuilt (facts_in table) (type_at (types_in table) ty))) _ q.1 in
    subst (λ t. is_unbuilt (facts_in table) t ≡ false) is (not-true (is_unbuilt (facts_in table) (type_at (types_in table) ty)) r.0)

elements_few : (table : List TypeDef) (kind : PlaceKind) (ty : ℕ) (e : Ty) → is_known table ty kind ≡ true
    → type_by_kind kind (type_at (types_in table) ty) ≡ type.sequence e → levels (form_of (facts_in table) e) ≤ 63
elements_few table K.Counter ty e h is = never (ap is_seq is)
elements_few table kind ty e h is =
    let q = and_parts (nat_lt ty (length table)) _ h in
    let r = and_parts (not (is_unbuilt (facts_in table) (type_at (types_in table) ty))) _ q.1 in
    let le : levels (form_of (facts_in table) (type.sequence e)) ≤ 64
    = leb-true (levels (form_of (facts_in table) (type.sequence e))) 64
    (subst (λ t. nat_le (levels (form_of (facts_in table) t)) 64 ≡ true) is r.1) in
    by le
  where
    by : suc (levels (form_of (facts_in table) e)) ≤ 64 → levels (form_of (facts_in table) e) ≤ 63
    by h = omega (arith, h)

-- the label of a trap is where it was
pub trap_at : (x : Basis) (g : Both) (line : BlockLine) (rest : List BlockLine) (trap : Trap) → TrapStops x (starts g line rest) trap → TrapStops x g trap
trap_at x g line rest trap t = record { there = t.there; stands = t.stands; stops = t.stops }

module _ (x : Basis) (types : SequencesKnown x) (g : Both) (line : BlockLine) (rest : List BlockLine) (y : IsGood x (starts g line rest)) where
  -- ---- a value

  pub record Goes (to : ℕ) (ty : Ty) : Type 0 where
    pub there : IsThere g.call.site (of_value to)
    pub typed : type_of x.table (house g.call.site (of_value to)) ≡ ty
    pub look : looked x.table g.call.site (of_value to) ≡ shape_of (facts_in x.table) ty

  -- that a line gives
  pub goes_to : (to : ℕ) (ty : Ty) → value_to (block_plain line) ≡ Some to
      → alias_by (block_plain line) (length (texts_of (map block_plain rest))) ≡ alias.Own → type_in x is_value (body_of g) to ≡ Some ty → Goes to ty
  goes_to to ty is own typed =
      let n = has_type x g.call.site (of_value to) ty y.linked.0 typed in
      record {
        there = with_home x n.named (own_either (house g.call.site (of_value to)).alias (value_alias x g line rest y to alias.Own is own)) tt;
        typed = n.typed;
        look = look_of x g.call.site (of_value to) ty n;
      }

  -- or that it is given
  pub comes_from : (t : ℕ) (ty : Ty) → AmongFrom t (homed_by (block_plain line)) → type_in x is_value (body_of g) t ≡ Some ty → Goes t ty
  comes_from t ty among typed =
      let n = has_type x g.call.site (of_value t) ty y.linked.0 typed in
      record {
        there = home_of_value x g line rest y t among n.named;
        typed = n.typed;
        look = look_of x g.call.site (of_value t) ty n;
      }

  -- the row of a value that is a sequence
  pub row_of_value : (t : ℕ) (e : Ty) → Goes t (type.sequence e) → IsSequence x.table (house g.call.site (of_value t)).ty e
  row_of_value t e goes =
      let h : Housed = house g.call.site (of_value t) in
      types h.ty e (sequence_by h.kind (type_at (types_in x.table) h.ty) e goes.typed)

  pub built_of_value : (t : ℕ) (e : Ty) → Goes t (type.sequence e) → is_unbuilt (facts_in x.table) e ≡ false
  built_of_value t e goes =
      let h : Housed = house g.call.site (of_value t) in
      elements_built x.table h.kind h.ty e (y.linked.0.known h goes.there.among) goes.typed

  -- ---- a location

  abbrev at_house : ℕ → Housed
  at_house t = location (around x.table x.blocks (body_of g)) t

  pub record HasSequence (t : ℕ) (l : Location) (e : Ty) : Type 0 where
    pub row : IsSequence x.table (location (around x.table x.blocks (body_of g)) t).ty e
    pub built : is_unbuilt (facts_in x.table) e ≡ false
    pub few : levels (form_of (facts_in x.table) e) ≤ 63
    pub long : ℕ
    pub block : Option ℕ
    pub sequence : SequenceThere x g line rest y l long block (shape_of (facts_in x.table) e) (location (around x.table x.blocks (body_of g)) t).home

  -- what is seen of a sequence is a handle
  pub seen_handle : (a : ℕ) (s : Shape) (v : Value) → Stored (is_fixed g.ground) g.ground.blocks g.memory a (elements s) v → is_whole g.world v ≡ true
      → (n : ℕ) × (k : Option ℕ) × (v ≡ Handle n k)
  seen_handle a s (Handle n k) h w = (n, k, refl)
  seen_handle a s Vacant h w = never w
  seen_handle a s (Number z) h w = absurd h
  seen_handle a s (Parts vs) h w = absurd h
  seen_handle a s (Fixed text) h w = absurd h
  seen_handle a s (Ref r) h w = absurd h
  seen_handle a s (Resource vs i) h w = absurd h
  seen_handle a s (Gone v final) h w = absurd h

  pub sequence_at : (t : ℕ) (there : Where) (e : Ty) → type_in x is_location (body_of g) t ≡ Some (type.sequence e)
      → fit.may_write (known x) (sigs x.table x.blocks) (globals_of x.table x.blocks) (body_of g).proc.places t ≡ true → g.call.temps.places t ≡ Some there
      → is_seen g.world (location_at g.call.temps there) ≡ true → may_change (location_at g.call.temps there).base ≡ true
      → HasSequence t (location_at g.call.temps there) e
  sequence_at t there e typed may at seen changes =
      let l : Location = location_at g.call.temps there in
      let s : Shape = shape_of (facts_in x.table) e in
      let has : HasType x g.call.site (of_location t) (type.sequence e) = has_type x g.call.site (of_location t) (type.sequence e) y.linked.0 typed in
      let look : looked x.table g.call.site (of_location t) ≡ elements s = look_of x g.call.site (of_location t) (type.sequence e) has in
      let p = and_parts (is_there g.world l) (is_whole g.world (load g.world l)) seen in
      let o : OwnedAt x g line rest y t there (elements s)
      = owned_at x g line rest y t there has.named (y.linked.0.standing t may) at (elements s) (no_constant x g line rest y there (elements s) changes) tt
      look p.0 p.1 in
      let same : location_at g.call.temps there ≡ o.location_is = ap (location_at g.call.temps) o.is in
      let owned : FromOwned x.table (all_sites x g line rest y) g.ground g.world l o.address (elements s)
      = subst (λ k. FromOwned x.table (all_sites x g line rest y) g.ground g.world k o.address (elements s)) (sym same) o.owned in
      let stored = read_at (is_fixed g.ground) (HomeOf x (starts g line rest)) (homes_apart x (starts g line rest) y) g.ground.blocks g.world g.memory
      (good_homes x (starts g line rest) y) l o.address (elements s) (owned_to x (starts g line rest) y l o.address (elements s) owned) p.0 in
      let h = seen_handle o.address s (load g.world l) stored p.1 in
      let housed = homed_house x g line rest y t there has.named (homed x g.call.site y.linked.0 t has.named) at in
      let own : Housed = house g.call.site (of_location t) in
      record {
        row = types (at_house t).ty e (sequence_by (at_house t).kind (type_at (types_in x.table) (at_house t).ty) e (housed.typed ∙ has.typed));
        built = elements_built x.table own.kind own.ty e (y.linked.0.known own has.named.among) has.typed;
        few = elements_few x.table own.kind own.ty e (y.linked.0.known own has.named.among) has.typed;
        long = h.0;
        block = h.1;
        sequence = record {
          is = h.2;
          live = p.0;
          whole = subst (λ v. is_whole g.world v ≡ true) h.2 p.1;
          address = o.address;
          owned = owned;
          at_home = o.at_home;
        };
      }

  -- with its elements by the look of a value of their type
  pub seen_as : (t : ℕ) (l : Location) (e : Ty) (m : HasSequence t l e) (s : Shape) → s ≡ shape_of (facts_in x.table) e
      → SequenceThere x g line rest y l m.long m.block s (location (around x.table x.blocks (body_of g)) t).home
  seen_as t l e m s is =
      subst (λ u. SequenceThere x g line rest y l m.long m.block u (location (around x.table x.blocks (body_of g)) t).home) (sym is) m.sequence

  -- bytes of 0 are what an element starts at
  pub zeros_blank : (e : Ty) (ty : ℕ) → IsSequence x.table ty e → is_unbuilt (facts_in x.table) e ≡ false → (later : Blocks) (middle : Memory) (a : ℕ)
      → ZeroWords middle a (shape_bytes (shape_of (facts_in x.table) e))
      → Stored (is_fixed g.ground) later middle a (shape_of (facts_in x.table) e) (blank (form_of (facts_in x.table) e))
  zeros_blank e ty row built later middle a zeros =
      subst (λ v. Stored (is_fixed g.ground) later middle a (shape_of (facts_in x.table) e) v) (sym row.blank_is)
      (zeros_stored (is_fixed g.ground) later middle a (shape_of (facts_in x.table) e) (row.handles built) row.shaped zeros)
