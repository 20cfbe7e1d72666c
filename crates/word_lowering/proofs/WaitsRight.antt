-- What a line says of waiting is right, and a temporary whose value waits at a node has a home there.
use Rattle.std.proofs.Common.{◌≡◌, inl, ℕ, ◌+◌, ◌^◌, ◌<◌, List, [], ◌∷◌, ◌++◌, true, false, refl, sym, ap, subst, ◌∙◌, arith}
use Rattle.std.proofs.lemmas.Bool.{and_parts}
use Rattle.nim_types.specs.declared.types.TypeDef.{TypeDef}
use Rattle.nim_types.specs.Table.{facts_in, types_in, type_at}
use Rattle.flat_code.specs.declared.block.BlockLine.{BlockLine}
use Rattle.flat_code.specs.declared.place.FlatPlace.{FlatPlace}
use Rattle.flat_code.specs.declared.place.PlaceKind.{PlaceKind}
use Rattle.flat_code.specs.declared.place.PlaceKind.TheVariants as K
use Rattle.flat_code.specs.Codes.{block_plain}
use Rattle.flat_code.specs.Fits.{type_by_kind}
use Rattle.flat_code.specs.Scene.{Known}
use Rattle.flat_code.specs.Shapes.{shape_of}
use Rattle.flat_code.specs.Waits.{all_wait_right, waits_in, waits_right}
use Rattle.word_lowering.specs.declared.homes.Housed.{Housed}
use Rattle.word_lowering.specs.declared.homes.Waiter.{Waiter}
use Rattle.word_lowering.specs.Stored.{is_hooked}
use Rattle.word_lowering.specs.WaitingCode.{waiter_house, waiting_house}
use Rattle.word_lowering.proofs.AddressFacts.{in_memory}
use Rattle.word_lowering.proofs.Keeping.{waiting_inside, waiting_there}
use Rattle.word_lowering.proofs.KeptLines.{WaitsAt}
use Rattle.word_lowering.proofs.Lines.{Basis, IsGood, all_sites, known, starts}
use Rattle.word_lowering.proofs.Related.{Both, body_of}
use Rattle.word_lowering.proofs.Scenes.{IsThere, address_of, house, looked, of_value, of_waiting}
use Rattle.word_lowering.proofs.ShapeFacts.{of_numbers}
use Rattle.word_lowering.proofs.Sites.{Site, has_hooks, has_hooks_by, is_one_word, IsKeptAt}
use Rattle.word_lowering.proofs.SitesApart.{houses}
use Rattle.word_lowering.proofs.Sources.{lying_all, lying_near}
use Rattle.word_lowering.proofs.StoredLater.{shape_some, shape_whole}
use Rattle.word_lowering.proofs.ValueFacts.{value_plain}

right_at : (known : Known) (places : List FlatPlace) (before : List BlockLine) (line : BlockLine) (rest : List BlockLine)
    → all_wait_right block_plain known places (before ++ line ∷ rest) ≡ true → waits_right known places (block_plain line) ≡ true
right_at known places [] line rest h = (and_parts (waits_right known places (block_plain line)) _ h).0
right_at known places (l ∷ before) line rest h = right_at known places before line rest (and_parts (waits_right known places (block_plain l)) _ h).1

-- a number that a loop keeps has none
hooked_by : (table : List TypeDef) (kind : PlaceKind) (ty : ℕ) → has_hooks_by table kind ty ≡ true → is_hooked table ty ≡ true
hooked_by table K.Counter ty h = absurd cc
hooked_by table kind ty h = h

module _ (x : Basis) (g : Both) (line : BlockLine) (rest : List BlockLine) (y : IsGood x (starts g line rest)) where
  abbrev s : Site
  s = g.call.site

  pub right : waits_right (known x) (body_of g).proc.places (block_plain line) ≡ true
  right =
      right_at (known x) (body_of g).proc.places y.stands.before line rest
      (subst (λ ls. all_wait_right block_plain (known x) (body_of g).proc.places ls ≡ true) y.stands.whole y.linked.0.rightly)

  -- a home where it waits
  pub kept_here : (to node : ℕ) → waits_in (known x) (body_of g).proc.places to node ≡ true → IsThere s (of_value to)
      → is_hooked x.table (house s (of_value to)).ty ≡ true → IsKeptAt x.table x.blocks (body_of g) (house s (of_value to)) node
  kept_here to node waits there hooked =
      y.linked.0.kept_at to node waits (record { among = there.among; number = there.number; kind = there.kind }) there.own hooked

  pub waits_so : (to node : ℕ) → IsThere s (of_value to) → is_hooked x.table (house s (of_value to)).ty ≡ true
      → (k : IsKeptAt x.table x.blocks (body_of g) (house s (of_value to)) node) → WaitsAt x s to node k.waiter
  waits_so to node there hooked k =
      let h : Housed = house s (of_value to) in
      let hooks : has_hooks x.table h ≡ true = ap (λ kind. has_hooks_by x.table kind h.ty) k.kind ∙ hooked in
      let w : Waiter = k.waiter in
      let homed : IsThere s (of_waiting node) = waiting_there s node w k.is in
      let inside = waiting_inside s node homed in
      let same : house s (of_waiting node) ≡ waiting_house w = ap waiter_house k.is in
      let many : is_one_word (looked x.table s (of_value to)) ≡ false = (y.linked.0.built h there.among hooks).1 in
      let plain_is = value_plain h there.kind in
      let housed = houses x.table x.blocks s (of_value to) y.linked.0 there in
      let size = housed.bytes in
      let wide = shape_whole (looked x.table s (of_value to)) in
      let some = shape_some (looked x.table s (of_value to)) in
      let bytes = k.bytes in
      let look : looked x.table s (of_value to) ≡ shape_of (facts_in x.table) (type_at (types_in x.table) w.ty)
      = ap (λ kind. shape_of (facts_in x.table) (type_by_kind kind (type_at (types_in x.table) h.ty))) k.kind
      ∙ ap (λ ty. shape_of (facts_in x.table) (type_at (types_in x.table) ty)) (sym k.type_is) in
      let waiting : looked x.table s (of_waiting node) ≡ shape_of (facts_in x.table) (type_at (types_in x.table) w.ty)
      = ap (λ (z : Housed). shape_of (facts_in x.table) (type_by_kind z.kind (type_at (types_in x.table) z.ty))) same in
      let near : address_of s.base (house s (of_waiting node)).home + w.bytes < 2 ^ 32
      = lying_near x (all_sites x g line rest y) y.linked (address_of s.base (house s (of_waiting node)).home) w.bytes
      (lying_all x (all_sites x g line rest y) y.linked s (of_waiting node) w.bytes (inl refl) homed inside (ap (λ (z : Housed). z.bytes) same)) in
      let below : s.base + w.at + w.bytes < 2 ^ 32
      = subst (λ (z : Housed). address_of s.base z.home + w.bytes < 2 ^ 32) same near in
      record {
        is = k.is;
        is_there = there;
        memory = in_memory x g line rest y (of_value to) there plain_is many;
        no_word = sym housed.word ∙ many;
        bytes = sym k.bytes;
        look = look ∙ sym waiting;
        whole = omega (arith, wide, size, bytes);
        some = omega (arith, some, size, bytes);
        near = omega (arith, below);
        many = ap of_numbers waiting ∙ x.shaped w.ty (ap (is_hooked x.table) k.type_is ∙ hooked);
      }

  pub waits_at : (to node : ℕ) → waits_in (known x) (body_of g).proc.places to node ≡ true → IsThere s (of_value to)
      → has_hooks x.table (house s (of_value to)) ≡ true → (w : Waiter) × WaitsAt x s to node w
  waits_at to node waits there hooks =
      let hooked = hooked_by x.table (house s (of_value to)).kind (house s (of_value to)).ty hooks in
      let k = kept_here to node waits there hooked in
      (k.waiter, waits_so to node there hooked k)
