-- What a location leads to, by the table of types: the place of which it is another name, or what stands at its address.
use Rattle.std.proofs.Common.{◌≡◌, ℕ, pos, List, Some, true, false, refl, sym, ap, subst, ◌∙◌, map, ◌<◌}
use Rattle.nim_types.specs.Types.{Ty}
use Rattle.nim_types.specs.Table.{facts_in}
use Rattle.nim_program.specs.Ints.{fits as is_int_number}
use Rattle.flat_code.specs.declared.block.BlockLine.{BlockLine}
use Rattle.flat_code.specs.Shapes.{shape_of, Shape, row}
use Rattle.word_lowering.specs.declared.homes.Alias.{Alias}
use Rattle.word_lowering.specs.declared.homes.Alias.TheVariants as alias
use Rattle.word_lowering.specs.declared.homes.Housed.{Housed}
use Rattle.flat_code.specs.Fits.{is_location}
use Rattle.flat_code.specs.Scene.{Where, location_at}
use Rattle.nim_meaning.specs.State.{is_seen, load}
use Rattle.nim_meaning.specs.Values.{length_of}
use Rattle.nim_program.specs.Kinds.{has_length, kind_if}
use Rattle.word_lowering.proofs.LineFits.{array_shape, no_handle, numbers_no_handle, some_kind}
use Rattle.word_lowering.proofs.Lines.{Basis, IsGood, all_sites, starts}
use Rattle.word_lowering.proofs.AddressFacts.{read_row}
use Rattle.word_lowering.proofs.ReadFacts.{start_site}
use Rattle.word_lowering.proofs.Related.{Both, body_of, called_by}
use Rattle.word_lowering.proofs.Scenes.{IsLedBy, IsNamed, IsThere, house, looked, of_location, of_place, of_value, site_of, of_waiting}
use Rattle.word_lowering.proofs.ShapeFacts.{shape_bytes}
use Rattle.word_lowering.proofs.Sites.{Body, IsHoused, around, type_of}
use Rattle.word_lowering.proofs.SitesApart.{houses}
use Rattle.word_lowering.proofs.Targets.{pointed}
use Rattle.word_lowering.proofs.ValueFacts.{has_type, homed_plain, location_of_numbers, place_there, type_in, IsHomed, IsPlain}
use Rattle.word_lowering.specs.Layouts.{behind}
use Rattle.word_lowering.specs.LineCode.{named, location}
use Rattle.word_lowering.specs.OwnedCode.{has_handle}
use Rattle.word_lowering.specs.Stored.{count_in, element_bytes, entry_at}

module _ (x : Basis) (g : Both) (line : BlockLine) (rest : List BlockLine) (y : IsGood x (starts g line rest)) where
  pub record HousedAs (h : Housed) (ty : Ty) : Type 0 where
    pub body : Body
    pub housed : IsHoused x.table x.blocks body h
    pub typed : type_of x.table h ≡ ty

  abbrev own_type : ℕ → Ty
  own_type t = type_of x.table (house g.call.site (of_location t))

  pub homed_house : (t : ℕ) (there : Where) → IsNamed g.call.site (of_location t) → IsHomed x g.call.site t → g.call.temps.places t ≡ Some there
      → HousedAs (location (around x.table x.blocks (body_of g)) t) (own_type t)
  homed_house t there n homed e = by (house g.call.site (of_location t)).alias refl (y.hold.0.led t there n e)
    where
      as_location : (a : Alias) → (house g.call.site (of_location t)).alias ≡ a
          → HousedAs (named (around x.table x.blocks (body_of g)) a (house g.call.site (of_location t))) (own_type t)
          → HousedAs (location (around x.table x.blocks (body_of g)) t) (own_type t)
      as_location a is h =
          subst (λ b. HousedAs (named (around x.table x.blocks (body_of g)) b (house g.call.site (of_location t))) (own_type t)) (sym is) h

      by : (a : Alias) → (house g.call.site (of_location t)).alias ≡ a
          → IsLedBy x.table x.blocks a (all_sites x g line rest y) g.ground g.world g.call t there
          → HousedAs (location (around x.table x.blocks (body_of g)) t) (own_type t)
      by alias.Own is r =
          let there_is : IsThere g.call.site (of_location t) = record { among = n.among; number = n.number; kind = n.kind; own = is } in
          as_location alias.Own is (record {
            body = body_of g;
            housed = houses x.table x.blocks g.call.site (of_location t) y.linked.0 there_is;
            typed = refl;
          })
      by (alias.Place p true) is r =
          let s = start_site x.table x.blocks g.call.site (map site_of (map called_by g.waiting)) y.linked in
          let global = s.body.global s.start p (own_type t) (y.linked.0.aliased t p true n is) in
          let h = houses x.table x.blocks s.site (of_place p) s.body (place_there x s.site p s.body global.there) in
          as_location (alias.Place p true) is
          (subst (λ k. HousedAs k (own_type t)) (sym global.same) (record { body = s.site.body; housed = h; typed = global.typed }))
      by (alias.Place p false) is r =
          let typed = has_type x g.call.site (of_place p) (own_type t) y.linked.0 (y.linked.0.aliased t p false n is) in
          as_location (alias.Place p false) is (record {
            body = body_of g;
            housed = houses x.table x.blocks g.call.site (of_place p) y.linked.0 (place_there x g.call.site p y.linked.0 typed.named);
            typed = typed.typed;
          })
      by (alias.Value u) is r =
          let typed = has_type x g.call.site (of_value u) (own_type t) y.linked.0 (y.linked.0.valued t u n is).0 in
          as_location (alias.Value u) is (record {
            body = body_of g;
            housed = houses x.table x.blocks g.call.site (of_value u) y.linked.0 (homed u is);
            typed = typed.typed;
          })
      by (alias.Node m) is r = as_location (alias.Node m) is (record {
        body = body_of g;
        housed = houses x.table x.blocks g.call.site (of_waiting m) y.linked.0 r.is_there;
        typed = r.typed;
      })
      by (alias.Text behind size) is r = absurd r

  pub location_house : (t : ℕ) (there : Where) → IsNamed g.call.site (of_location t) → IsPlain x g.call.site (of_location t)
      → g.call.temps.places t ≡ Some there → HousedAs (location (around x.table x.blocks (body_of g)) t) (own_type t)
  location_house t there n plain e = homed_house t there n (homed_plain x g.call.site t y.linked.0 n plain) e

  -- ---- arrays

  -- an array at a location: how many elements it has, as the code says too
  pub record RowAt (from : ℕ) (there : Where) : Type 0 where
    pub count : ℕ
    pub of : Shape
    pub ty : Ty
    pub typed : type_in x is_location (body_of g) from ≡ Some ty
    pub shape : shape_of (facts_in x.table) ty ≡ row count of
    pub fits : is_int_number (pos count) ≡ true
    pub named : IsNamed g.call.site (of_location from)
    pub look : looked x.table g.call.site (of_location from) ≡ row count of
    pub count_is : count_in (entry_at x.table (location (around x.table x.blocks (body_of g)) from).ty) ≡ count
    pub bytes_is : 0 < count → element_bytes x.table (entry_at x.table (location (around x.table x.blocks (body_of g)) from).ty) ≡ shape_bytes of
    pub no_handle : has_handle (entry_at x.table (location (around x.table x.blocks (body_of g)) from).ty) ≡ false
    pub long : is_seen g.world (location_at g.call.temps there) ≡ true → length_of (load g.world (location_at g.call.temps there)) ≡ count

  -- whatever its elements have
  pub row_with : (from : ℕ) (there : Where) → has_length (kind_if (facts_in x.table) (type_in x is_location (body_of g) from)) ≡ true
      → (IsNamed g.call.site (of_location from) → IsHomed x g.call.site from)
      → (IsNamed g.call.site (of_location from) → no_handle (looked x.table g.call.site (of_location from)) ≡ true)
      → g.call.temps.places from ≡ Some there → RowAt from there
  row_with from there k homed row_like e =
      let s = some_kind (facts_in x.table) (type_in x is_location (body_of g) from) has_length refl k in
      let p = pointed x g line rest y from s.0 s.1 in
      let r = array_shape (facts_in x.table) s.0 s.2 (sym (ap no_handle p.look) ∙ row_like p.named) in
      let h = homed_house from there p.named (homed p.named) e in
      let rows = h.housed.rows r.count r.of (ap (shape_of (facts_in x.table)) h.typed ∙ (p.look ∙ r.is)) in
      record {
        count = r.count;
        of = r.of;
        ty = s.0;
        typed = s.1;
        shape = r.is;
        fits = r.fits;
        named = p.named;
        look = p.look ∙ r.is;
        count_is = rows.0;
        bytes_is = rows.1;
        no_handle = rows.2;
        long = λ seen. let v = read_row x g line rest y from there p.named (homed p.named) e r.count r.of (p.look ∙ r.is) seen in ap length_of v.is ∙ v.long;
      }

  pub row_at : (from : ℕ) (there : Where) → has_length (kind_if (facts_in x.table) (type_in x is_location (body_of g) from)) ≡ true
      → IsPlain x g.call.site (of_location from) → g.call.temps.places from ≡ Some there → RowAt from there
  row_at from there k plain e =
      row_with from there k (λ n. homed_plain x g.call.site from y.linked.0 n plain)
      (λ n. numbers_no_handle (looked x.table g.call.site (of_location from)) (location_of_numbers x g.call.site from y.linked.0 n plain)) e
