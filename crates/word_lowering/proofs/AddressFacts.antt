-- The address of what a location leads to, where that is no word, and lines that lead to a part of it.
use Rattle.std.proofs.Common.{◌≡◌, inl, inr, ℕ, ◌≤◌, List, map, Some, Bool, true, false, refl, sym, ap, subst, ◌∙◌, arith, ◌⊎◌}
use Rattle.std.proofs.lemmas.Bool.{cases_Bool}
use Rattle.nim_types.specs.Table.{facts_in}
use Rattle.nim_types.specs.Types.{Ty}
use Rattle.nim_meaning.specs.Values.{Standing}
use Rattle.nim_meaning.specs.Places.{root_of, through_slot}
use Rattle.nim_meaning.specs.State.{is_seen, load}
use Rattle.flat_code.specs.declared.block.BlockLine.{BlockLine}
use Rattle.flat_code.specs.Fits.{is_standing}
use Rattle.flat_code.specs.Codes.{block_plain}
use Rattle.flat_code.specs.Scene.{Where, Located, location_at}
use Rattle.flat_code.specs.Shapes.{Shape, row, shape_of}
use Rattle.word_lowering.specs.declared.homes.Alias.{Alias}
use Rattle.word_lowering.specs.declared.homes.Alias.TheVariants as alias
use Rattle.word_lowering.specs.declared.homes.Home.{Home}
use Rattle.word_lowering.specs.declared.homes.Home.TheVariants.{Variable, Placed, Static}
use Rattle.word_lowering.specs.declared.homes.Housed.{Housed}
use Rattle.word_lowering.specs.Layouts.{holds_address, owns}
use Rattle.word_lowering.specs.LineCode.{location, named, place, variable_in, variable_of, Around}
use Rattle.word_code.proofs.ForCallers.{at}
use Rattle.word_lowering.proofs.ControlLines.{plain}
use Rattle.word_lowering.proofs.HandedPlaces.{handed_among, is_addressed}
use Rattle.word_lowering.specs.Aliases.{handed_by, places_in, handed_in, is_among}
use Rattle.word_lowering.proofs.Keeping.{declared_address, location_address, points_there, spot_address, spot_memory, waiting_inside, node_look}
use Rattle.word_lowering.proofs.Lines.{Basis, IsGood, all_sites, starts}
use Rattle.word_lowering.proofs.Located.{RowRead, led_row}
use Rattle.word_lowering.proofs.LetterShapes.{no_letter}
use Rattle.word_lowering.proofs.MovedLines.{own_plain}
use Rattle.word_lowering.proofs.Moves.{IsHigh}
use Rattle.word_lowering.proofs.ReadFacts.{global_root, own_root}
use Rattle.word_lowering.proofs.Related.{Both, body_of, within}
use Rattle.word_lowering.proofs.Scenes.{Leads, Filled, IsInValue, IsLedBy, IsNamed, IsRoot, IsThere, Name, Points, address_of, house}
use Rattle.word_lowering.proofs.Scenes.{Reaches, ReachesHere, looked, reached_so, stored_so}
use Rattle.word_lowering.proofs.Scenes.{of_location, of_place, of_value, of_waiting}
use Rattle.word_lowering.proofs.ShapeFacts.{never, is_letter}
use Rattle.word_lowering.proofs.Sites.{Housing, InMemory, around, by_address, data_end, in_data, in_places, in_variable, IsHoused, is_one_word, room}
use Rattle.word_lowering.proofs.Sites.{type_of, lines_of}
use Rattle.word_lowering.proofs.SitesApart.{houses}
use Rattle.word_lowering.proofs.ValueFacts.{has_type, homed_plain, housed_inside, look_of, place_there, value_plain, IsHomed, IsPlain}
use Rattle.word_lowering.specs.declared.homes.TheConstants.{OWN_FROM}
use Rattle.word_lowering.specs.declared.texts.TheConstants.{FIXED_BYTES}
use Rattle.word_lowering.specs.Spots.{spot_of}
use Rattle.word_lowering.specs.declared.spots.Spot.TheVariants.{Lies}

pub high_in_memory : (home : Home) → InMemory home → IsHigh home
high_in_memory (Variable v) i = absurd i
high_in_memory (Placed at) i = tt
high_in_memory (Static at) i = tt

module _ (x : Basis) (g : Both) (line : BlockLine) (rest : List BlockLine) (y : IsGood x (starts g line rest)) where
  abbrev here : Around
  here = around x.table x.blocks (body_of g)

  -- a location leads to an address that code knows
  pub record AtAddress (h : Housed) (there : Where) (s : Shape) : Type 0 where
    pub home : Home
    pub home_is : h.home ≡ home
    pub lies : spot_of h ≡ Lies home
    pub high_is : IsHigh home
    pub address : ℕ
    pub points : Points g.call.site.base g.call.vars home address
    pub leads_to : Leads x.table x.blocks (all_sites x g line rest y) g.ground g.world g.call.site g.call.temps there address s

  -- the same of anything, also of what may be a character of a text
  pub record Reached (h : Housed) (there : Where) (s : Shape) : Type 0 where
    pub home : Home
    pub home_is : h.home ≡ home
    pub lies : is_letter s ≡ false → spot_of h ≡ Lies home
    pub high_is : IsHigh home
    pub address : ℕ
    pub points : Points g.call.site.base g.call.vars home address
    pub reaches : Reaches x.table x.blocks (all_sites x g line rest y) g.ground g.world g.call.site g.call.temps there address s

  -- what is in the variable of a place that has an address
  pub record AddressIn (f : Name) (a : ℕ) : Type 0 where
    pub variable_is : ℕ
    pub home : (house g.call.site f).home ≡ Variable variable_is
    pub spot : is_letter (looked x.table g.call.site f) ≡ false → spot_of (house g.call.site f) ≡ Lies (Variable variable_is)
    pub high_is : OWN_FROM ≤ variable_is
    pub points : g.call.vars variable_is ≡ Some a

  pub address_in : (f : Name) (a : ℕ) → IsThere g.call.site f → holds_address (house g.call.site f) ≡ true
      → g.call.vars (variable_of (house g.call.site f)) ≡ Some a → AddressIn f a
  address_in f a there address is = by place_is.where_is
    where
      place_is : IsHoused x.table x.blocks g.call.site.body (house g.call.site f)
      place_is = houses x.table x.blocks g.call.site f y.linked.0 there

      by : Housing (room (body_of g)) FIXED_BYTES (data_end x.table x.blocks) (body_of g).start (house g.call.site f) → AddressIn f a
      by (in_variable v e plain least w) = never (sym plain ∙ address)
      by (by_address v e k least) = record {
        variable_is = v;
        home = e;
        spot = λ other. spot_address (house g.call.site f) v address (sym place_is.letter ∙ other) e;
        high_is = least;
        points = ap g.call.vars (sym (ap variable_in e)) ∙ is;
      }
      by (in_places m e plain whole within) = never (sym plain ∙ address)
      by (in_data m e plain whole least within start) = never (sym plain ∙ address)

  -- what is no word is in memory
  pub in_memory : (f : Name) → IsThere g.call.site f → holds_address (house g.call.site f) ≡ false
      → is_one_word (looked x.table g.call.site f) ≡ false → InMemory (house g.call.site f).home
  in_memory f there plain_is many =
      housed_inside x (body_of g) (house g.call.site f) (houses x.table x.blocks g.call.site f y.linked.0 there) plain_is many

  -- where own places of the call and values that it may lead to are in memory
  record IsReached (t : ℕ) : Type 0 where
    place : (p : ℕ) → (house g.call.site (of_location t)).alias ≡ alias.Place p false → IsThere g.call.site (of_place p)
        → owns (house g.call.site (of_place p)) ≡ true → looked x.table g.call.site (of_place p) ≡ looked x.table g.call.site (of_location t)
        → InMemory (house g.call.site (of_place p)).home
    value : (u : ℕ) → (house g.call.site (of_location t)).alias ≡ alias.Value u → IsThere g.call.site (of_value u)
        → looked x.table g.call.site (of_value u) ≡ looked x.table g.call.site (of_location t) → InMemory (house g.call.site (of_value u)).home

  at_reached : (t : ℕ) (there : Where) → IsNamed g.call.site (of_location t) → IsHomed x g.call.site t → g.call.temps.places t ≡ Some there → IsReached t
      → Reached (location here t) there (looked x.table g.call.site (of_location t))
  at_reached t there n homed e reached = by (house g.call.site (of_location t)).alias refl (y.hold.0.led t there n e)
    where
      s : Shape
      s = looked x.table g.call.site (of_location t)

      own_ty : Ty
      own_ty = type_of x.table (house g.call.site (of_location t))

      as_location : (a : Alias) → (house g.call.site (of_location t)).alias ≡ a
          → Reached (named here a (house g.call.site (of_location t))) there s → Reached (location here t) there s
      as_location a is w = subst (λ b. Reached (named here b (house g.call.site (of_location t))) there s) (sym is) w

      by_place : (p : ℕ) (global : Bool) → (house g.call.site (of_location t)).alias ≡ alias.Place p global
          → IsRoot x.table (all_sites x g line rest y) g.world g.call p global there → Reached (location here t) there s
      by_place p true is r =
          let ty = y.linked.0.aliased t p true n is in
          let filled : Filled g.world 0 p = subst (λ l. Filled g.world l p) r.level r.filled in
          let u = global_root x g line rest y p own_ty ty filled in
          let site0 = u.start.site in
          let at_l : there ≡ Located (root_of (Standing site0.level p) g.world)
          = r.is ∙ ap (λ k. Located (root_of (Standing k p) g.world)) (r.level ∙ sym u.start.level) in
          let same : house site0 (of_place p) ≡ place here p true = sym u.global.same in
          let own = own_root x g line rest y site0.level p u.root.value u.root.slot in
          let points : Points g.call.site.base g.call.vars (house site0 (of_place p)).home (address_of site0.base (house site0 (of_place p)).home)
          = subst (λ h. Points g.call.site.base g.call.vars h (address_of site0.base h)) (sym u.global.home) refl in
          as_location (alias.Place p true) is
          (subst (λ h. Reached h there s) same (record {
            home = (house site0 (of_place p)).home;
            home_is = refl;
            lies = λ other. spot_memory (house site0 (of_place p)) u.root.item.plain u.home;
            high_is = high_in_memory (house site0 (of_place p)).home u.home;
            address = address_of site0.base (house site0 (of_place p)).home;
            points = points;
            reaches = subst (λ w. Reaches x.table x.blocks (all_sites x g line rest y) g.ground g.world g.call.site g.call.temps w
                (address_of site0.base (house site0 (of_place p)).home) s) (sym (at_l ∙ ap Located own)) (inl (inl (record {
                  site = site0;
                  among = u.start.among;
                  number = p;
                  base = refl;
                  filled = u.filled;
                  there = u.there;
                  home = u.home;
                  offset = 0;
                  path = (refl, ap (shape_of (facts_in x.table)) u.global.typed);
                  address = omega arith;
                })));
          }))
      by_place p false is r =
          let ty = y.linked.0.aliased t p false n is in
          let filled : Filled g.world g.call.site.level p = subst (λ l. Filled g.world l p) r.level r.filled in
          let typed = has_type x g.call.site (of_place p) own_ty y.linked.0 ty in
          let there_is = place_there x g.call.site p y.linked.0 typed.named in
          let at_l : there ≡ Located (root_of (Standing g.call.site.level p) g.world)
          = r.is ∙ ap (λ k. Located (root_of (Standing k p) g.world)) r.level in
          let look = look_of x g.call.site (of_place p) own_ty typed in
          as_location (alias.Place p false) is
          (of_call p is there_is look filled at_l (cases_Bool (owns (house g.call.site (of_place p)))))
        where
          of_call : (p : ℕ) → (house g.call.site (of_location t)).alias ≡ alias.Place p false → IsThere g.call.site (of_place p)
              → looked x.table g.call.site (of_place p) ≡ s → Filled g.world g.call.site.level p
              → there ≡ Located (root_of (Standing g.call.site.level p) g.world)
              → (owns (house g.call.site (of_place p)) ≡ true) ⊎ (owns (house g.call.site (of_place p)) ≡ false)
              → Reached (house g.call.site (of_place p)) there s
          of_call p is there_is look filled at_l (inl own) =
              let v = (y.hold.0.filled p there_is filled).own own in
              let inside = reached.place p is there_is own look in
              record {
                home = (house g.call.site (of_place p)).home;
                home_is = refl;
                lies = λ other. spot_memory (house g.call.site (of_place p)) (own_plain (house g.call.site (of_place p)) own) inside;
                high_is = high_in_memory (house g.call.site (of_place p)).home inside;
                address = address_of g.call.site.base (house g.call.site (of_place p)).home;
                points = points_there g.call.site.base g.call.vars (house g.call.site (of_place p)).home inside;
                reaches = subst (λ w. Reaches x.table x.blocks (all_sites x g line rest y) g.ground g.world g.call.site g.call.temps w
                    (address_of g.call.site.base (house g.call.site (of_place p)).home) s)
                    (sym (at_l ∙ ap Located (own_root x g line rest y g.call.site.level p v.0 v.1))) (inl (inl (record {
                      site = g.call.site;
                      among = inl refl;
                      number = p;
                      base = refl;
                      filled = filled;
                      there = there_is;
                      home = inside;
                      offset = 0;
                      path = (refl, look);
                      address = omega arith;
                    })));
              }
          of_call p is there_is look filled at_l (inr no_own) =
              let v = (y.hold.0.filled p there_is filled).other no_own in
              let q = address_in (of_place p) v.address there_is (declared_address (house g.call.site (of_place p)) there_is.kind no_own) v.holds in
              let same : there ≡ Located v.location = at_l ∙ ap Located (ap (through_slot (Standing g.call.site.level p)) v.slot) in
              record {
                home = Variable q.variable_is;
                home_is = q.home;
                lies = λ other. q.spot (ap is_letter look ∙ other);
                high_is = q.high_is;
                address = v.address;
                points = q.points;
                reaches = subst (λ w. Reaches x.table x.blocks (all_sites x g line rest y) g.ground g.world g.call.site g.call.temps w v.address s) (sym same)
                    (subst (λ k. ReachesHere x.table x.blocks (all_sites x g line rest y) g.ground g.world v.location v.address k) look v.leads);
              }

      by_value : (u : ℕ) → (house g.call.site (of_location t)).alias ≡ alias.Value u → IsInValue x.table g.call u there → Reached (location here t) there s
      by_value u is r =
          let typed = has_type x g.call.site (of_value u) own_ty y.linked.0 (y.linked.0.valued t u n is).0 in
          let look = look_of x g.call.site (of_value u) own_ty typed in
          let there_is = homed u is in
          let inside = reached.value u is there_is look in
          as_location (alias.Value u) is (record {
            home = (house g.call.site (of_value u)).home;
            home_is = refl;
            lies = λ other. spot_memory (house g.call.site (of_value u)) (value_plain (house g.call.site (of_value u)) there_is.kind) inside;
            high_is = high_in_memory (house g.call.site (of_value u)).home inside;
            address = address_of g.call.site.base (house g.call.site (of_value u)).home;
            points = points_there g.call.site.base g.call.vars (house g.call.site (of_value u)).home inside;
            reaches = subst (λ w. Reaches x.table x.blocks (all_sites x g line rest y) g.ground g.world g.call.site g.call.temps w
                (address_of g.call.site.base (house g.call.site (of_value u)).home) s) (sym r.is) (record {
                  there = there_is;
                  home = inside;
                  offset = 0;
                  leads = (refl, look);
                  address = omega arith;
                  lasting = r.lasting;
                  value = r.value;
                  has = r.has;
                });
          })

      by : (a : Alias) → (house g.call.site (of_location t)).alias ≡ a → IsLedBy x.table x.blocks a (all_sites x g line rest y) g.ground g.world g.call t there
          → Reached (location here t) there s
      by alias.Own is r =
          let there_is : IsThere g.call.site (of_location t) = record { among = n.among; number = n.number; kind = n.kind; own = is } in
          let q = address_in (of_location t) r.address there_is (location_address (house g.call.site (of_location t)) n.kind) r.holds in
          as_location alias.Own is (record {
            home = Variable q.variable_is;
            home_is = q.home;
            lies = λ other. q.spot other;
            high_is = q.high_is;
            address = r.address;
            points = q.points;
            reaches = r.leads;
          })
      by (alias.Place p global) is r = by_place p global is r
      by (alias.Value u) is r = by_value u is r
      by (alias.Node m) is r =
          let inside = waiting_inside g.call.site m r.is_there in
          as_location (alias.Node m) is (record {
            home = (house g.call.site (of_waiting m)).home;
            home_is = refl;
            lies = λ other. spot_memory (house g.call.site (of_waiting m)) (value_plain (house g.call.site (of_waiting m)) r.is_there.kind) inside;
            high_is = high_in_memory (house g.call.site (of_waiting m)).home inside;
            address = address_of g.call.site.base (house g.call.site (of_waiting m)).home;
            points = points_there g.call.site.base g.call.vars (house g.call.site (of_waiting m)).home inside;
            reaches = subst (λ w. Reaches x.table x.blocks (all_sites x g line rest y) g.ground g.world g.call.site g.call.temps w
                (address_of g.call.site.base (house g.call.site (of_waiting m)).home) s) (sym r.is) (inl (inr (inr (inr (record {
                  site = g.call.site;
                  among = inl refl;
                  node = m;
                  base = refl;
                  there = r.is_there;
                  offset = 0;
                  path = (refl, node_look x.table g.call.site t m there r);
                  address = omega arith;
                })))));
          })
      by (alias.Text m size) is r = absurd r

  -- what is no word
  pub at_homed : (t : ℕ) (there : Where) → IsNamed g.call.site (of_location t) → IsHomed x g.call.site t → g.call.temps.places t ≡ Some there
      → is_one_word (looked x.table g.call.site (of_location t)) ≡ false
      → AtAddress (location here t) there (looked x.table g.call.site (of_location t))
  at_homed t there n homed e many =
      let s : Shape = looked x.table g.call.site (of_location t) in
      let other = no_letter s many in
      let r = at_reached t there n homed e (record {
        place = λ p is there_is own look. in_memory (of_place p) there_is (own_plain (house g.call.site (of_place p)) own) (ap is_one_word look ∙ many);
        value = λ u is there_is look. in_memory (of_value u) there_is (value_plain (house g.call.site (of_value u)) there_is.kind)
            (ap is_one_word look ∙ many);
      }) in
      record {
        home = r.home;
        home_is = r.home_is;
        lies = r.lies other;
        high_is = r.high_is;
        address = r.address;
        points = r.points;
        leads_to = stored_so x.table x.blocks (all_sites x g line rest y) g.ground g.world g.call.site g.call.temps there r.address s other r.reaches;
      }

  -- of what is no character
  pub as_reached : (h : Housed) (there : Where) (s : Shape) → AtAddress h there s → Reached h there s
  as_reached h there s a = record {
    home = a.home;
    home_is = a.home_is;
    lies = λ other. a.lies;
    high_is = a.high_is;
    address = a.address;
    points = a.points;
    reaches = reached_so x.table x.blocks (all_sites x g line rest y) g.ground g.world g.call.site g.call.temps there a.address s a.leads_to;
  }

  pub at_address : (t : ℕ) (there : Where) → IsNamed g.call.site (of_location t) → IsPlain x g.call.site (of_location t)
      → g.call.temps.places t ≡ Some there → is_one_word (looked x.table g.call.site (of_location t)) ≡ false
      → AtAddress (location here t) there (looked x.table g.call.site (of_location t))
  at_address t there n plain e many = at_homed t there n (homed_plain x g.call.site t y.linked.0 n plain) e many

  -- what may be written, where the line hands on its address
  pub handed_homed : (t : ℕ) (there : Where) → IsNamed g.call.site (of_location t) → IsHomed x g.call.site t → g.call.temps.places t ≡ Some there
      → is_standing (house g.call.site (of_location t)).kind ≡ true → is_among t (places_in (handed_by (block_plain line))) ≡ true
      → Reached (location here t) there (looked x.table g.call.site (of_location t))
  handed_homed t there n homed e standing handed = at_reached t there n homed e (record {
    place = λ p is there_is own look. y.linked.0.addressed p (is_addressed x.table x.blocks (body_of g) y.linked.0 t p n is among)
        (record { among = there_is.among; number = there_is.number; kind = there_is.kind }) own;
    value = λ u is there_is look. never (sym (y.linked.0.valued t u n is).1 ∙ standing);
  })
    where
      among : is_among t (handed_in (lines_of (body_of g))) ≡ true
      among = subst (λ l. is_among t (handed_in (map block_plain l)) ≡ true) (sym y.stands.whole) (handed_among t y.stands.before line rest handed)

  pub handed_at : (t : ℕ) (there : Where) → IsNamed g.call.site (of_location t) → IsPlain x g.call.site (of_location t)
      → g.call.temps.places t ≡ Some there
      → is_standing (house g.call.site (of_location t)).kind ≡ true → is_among t (places_in (handed_by (block_plain line))) ≡ true
      → Reached (location here t) there (looked x.table g.call.site (of_location t))
  handed_at t there n plain e standing handed = handed_homed t there n (homed_plain x g.call.site t y.linked.0 n plain) e standing handed

  -- an array there
  pub read_row : (t : ℕ) (there : Where) → IsNamed g.call.site (of_location t) → IsHomed x g.call.site t
      → g.call.temps.places t ≡ Some there → (count : ℕ) (of : Shape)
      → looked x.table g.call.site (of_location t) ≡ row count of → is_seen g.world (location_at g.call.temps there) ≡ true
      → RowRead (load g.world (location_at g.call.temps there)) count
  read_row t there n homed e count of look seen =
      let a = at_homed t there n homed e (ap is_one_word look) in
      led_row x (starts g line rest) y g.call (inl refl) there a.address count of seen
      (subst (λ s. Leads x.table x.blocks (all_sites x g line rest y) g.ground g.world g.call.site g.call.temps there a.address s) look a.leads_to)
