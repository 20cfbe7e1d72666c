-- Where what a line writes at a location stands, and that it is written.
use Rattle.std.proofs.Common.{◌≡◌, inl, inr, ℕ, ◌+◌, ◌*◌, ◌≤◌, List, [], Some, Bool, true, false, refl, sym, ap, ap₂, subst, ◌∙◌, arith, ◌⊎◌}
use Rattle.std.proofs.lemmas.Bool.{and_parts, cases_Bool}
use Rattle.word_code.proofs.ForCallers.{at, Runs}
use Rattle.word_lowering.proofs.RoutineCalls.{awaiting}
use Rattle.nim_meaning.specs.Values.{Value, bytes, Location, Standing, Holds}
use Rattle.nim_meaning.specs.State.{is_seen, is_there, is_whole, load, slot_at, store, with_slot}
use Rattle.nim_meaning.specs.Places.{may_change, place_at, root_of, through_slot}
use Rattle.word_lowering.specs.LineCode.{location, named, place, Around, variable_in, variable_of}
use Rattle.flat_code.specs.declared.block.BlockLine.{BlockLine}
use Rattle.flat_code.specs.Fits.{is_standing}
use Rattle.flat_code.specs.Scene.{Where, Located, Temps, Passes, Within}
use Rattle.flat_code.specs.Shapes.{Shape, has_shape, shape_of}
use Rattle.word_lowering.specs.declared.homes.Alias.{Alias}
use Rattle.word_lowering.specs.declared.homes.Alias.TheVariants as alias
use Rattle.word_lowering.specs.declared.homes.Home.{Home}
use Rattle.word_lowering.specs.declared.homes.Home.TheVariants.{Variable, Static, Placed}
use Rattle.word_lowering.specs.declared.homes.Housed.{Housed}
use Rattle.word_lowering.specs.declared.spots.Spot.TheVariants.{Lies, Letter}
use Rattle.word_lowering.specs.Layouts.{holds_address, owns}
use Rattle.nim_meaning.specs.Deeds.{Answers}
use Rattle.nim_types.specs.Table.{facts_in}
use Rattle.word_lowering.proofs.ControlLines.{plain}
use Rattle.word_lowering.proofs.Gets.{Gets, SameTemps, gets_moved, good_place}
use Rattle.word_lowering.proofs.Keeping.{declared_address, led_spot, location_address, spot_led, spot_memory}
use Rattle.word_lowering.proofs.InMemory.{bytes_some}
use Rattle.word_lowering.proofs.LetterStores.{letter_settles}
use Rattle.word_lowering.proofs.Lines.{Basis, IsGood, Settles, all_procs, all_sites, changed, changed_later, goes_on, stands_next, starts}
use Rattle.word_lowering.proofs.Located.{owned_readable, waiting_lying}
use Rattle.word_lowering.proofs.MovedLines.{own_plain}
use Rattle.word_lowering.proofs.Moves.{IsHigh, ToMemory}
use Rattle.word_lowering.proofs.ReadFacts.{Read, global_root, own_root}
use Rattle.word_lowering.proofs.Related.{Both, body_of, within}
use Rattle.word_lowering.proofs.Scenes.{IsOwned, IsStood, Stood, may_owned, Filled, FromOwned, FromPlace, IsAddressed, IsFilled, IsLedBy, IsNamed, IsRoot}
use Rattle.word_lowering.proofs.Scenes.{IsThere}
use Rattle.word_lowering.proofs.Scenes.{Name, Points, address_of, LeadsHere, Reaches, ReachesHere, stored_here}
use Rattle.word_lowering.proofs.Scenes.{house, looked, of_location, of_place}
use Rattle.word_lowering.proofs.Settling.{code_here, code_next}
use Rattle.word_lowering.proofs.ShapeFacts.{bytes_is, is_letter, letter_is, never, of_numbers, shape_bytes, values_of_numbers}
use Rattle.word_lowering.proofs.Sites.{Housing, InMemory, around, by_address, data_end, in_data, in_places, in_variable, IsHoused, room, type_of, Site}
use Rattle.word_lowering.proofs.SitesApart.{houses}
use Rattle.word_lowering.proofs.Sources.{Readable, separate_turned, to_range_by, lying_readable}
use Rattle.word_lowering.proofs.Stores.{good_written, ground_then, gone_written}
use Rattle.word_lowering.proofs.ValueFacts.{has_type, look_of, place_there}
use Rattle.word_lowering.specs.Spots.{moves, spot_of}
use Rattle.word_lowering.specs.declared.homes.TheConstants.{OWN_FROM}
use Rattle.word_lowering.specs.declared.texts.TheConstants.{FIXED_BYTES}
use Rattle.word_lowering.proofs.GoodLeads.{FromGone, owned_or_gone}
use Rattle.word_code.specs.declared.word.WordInstr.{WordInstr}

pub high_in_memory : (home : Home) → InMemory home → IsHigh home
high_in_memory (Variable v) i = absurd i
high_in_memory (Placed at) i = tt
high_in_memory (Static at) i = tt

module _ (x : Basis) (g : Both) (line : BlockLine) (rest : List BlockLine) (y : IsGood x (starts g line rest)) where
  abbrev here : Around
  here = around x.table x.blocks (body_of g)

  -- all of a place of the call, or a part of some place, of what waits or of an element in a block
  pub data Written (h : Housed) (l : Location) (s : Shape) : Type 0 where
    own_written : (n : ℕ) → IsThere g.call.site (of_place n) → owns (house g.call.site (of_place n)) ≡ true
        → h ≡ house g.call.site (of_place n) → looked x.table g.call.site (of_place n) ≡ s
        → (old : Value) → slot_at g.world g.call.site.level n ≡ Some (Holds old) → l ≡ place_at g.call.site.level n → Written h l s
    far_written : (home : Home) → spot_of h ≡ Lies home → IsHigh home → (a : ℕ) → Points g.call.site.base g.call.vars home a
        → IsStood l.base → LeadsHere x.table x.blocks (all_sites x g line rest y) g.ground g.world l a s → Written h l s
    -- a character at an address, also one of a text: it is written as a byte
    letter_written : (home : Home) → spot_of h ≡ Letter home → IsHigh home → (a : ℕ) → Points g.call.site.base g.call.vars home a
        → IsStood l.base → is_letter s ≡ true → ReachesHere x.table x.blocks (all_sites x g line rest y) g.ground g.world l a s → Written h l s

  pub written_stands : {h : Housed} {l : Location} {s : Shape} → Written h l s → IsStood l.base
  written_stands (own_written n there own same look old slot at) = inl (subst (λ k. IsOwned k.base) (sym at) tt)
  written_stands (far_written home spot high a points stood leads) = stood
  written_stands (letter_written home spot high a points stood letter leads) = stood

  -- what is in the variable of a place that has an address
  record AddressIn (f : Name) (a : ℕ) : Type 0 where
    variable_is : ℕ
    spot : spot_of (house g.call.site f) ≡ led_spot (is_letter (looked x.table g.call.site f)) (Variable variable_is)
    high_is : OWN_FROM ≤ variable_is
    points : g.call.vars variable_is ≡ Some a

  address_in : (f : Name) (a : ℕ) → IsThere g.call.site f → holds_address (house g.call.site f) ≡ true
      → g.call.vars (variable_of (house g.call.site f)) ≡ Some a → AddressIn f a
  address_in f a there address is = by place_is.where_is
    where
      place_is : IsHoused x.table x.blocks g.call.site.body (house g.call.site f)
      place_is = houses x.table x.blocks g.call.site f y.linked.0 there

      by : Housing (room (body_of g)) FIXED_BYTES (data_end x.table x.blocks) (body_of g).start (house g.call.site f) → AddressIn f a
      by (in_variable v e plain least w) = never (sym plain ∙ address)
      by (by_address v e k least) = record {
        variable_is = v;
        spot = spot_led (house g.call.site f) address ∙ ap₂ led_spot (sym place_is.letter) e;
        high_is = least;
        points = ap g.call.vars (sym (ap variable_in e)) ∙ is;
      }
      by (in_places m e plain whole within) = never (sym plain ∙ address)
      by (in_data m e plain whole least within start) = never (sym plain ∙ address)

  -- at the address there
  at_far : (f : Name) (l : Location) (a : ℕ) (s : Shape) → AddressIn f a → looked x.table g.call.site f ≡ s → IsStood l.base
      → ReachesHere x.table x.blocks (all_sites x g line rest y) g.ground g.world l a s → Written (house g.call.site f) l s
  at_far f l a s p look stood leads = by (is_letter s) refl
    where
      spot : {b : Bool} → is_letter s ≡ b → spot_of (house g.call.site f) ≡ led_spot b (Variable p.variable_is)
      spot e = p.spot ∙ ap (λ b. led_spot b (Variable p.variable_is)) (ap is_letter look ∙ e)

      by : (b : Bool) → is_letter s ≡ b → Written (house g.call.site f) l s
      by true e = letter_written (Variable p.variable_is) (spot e) p.high_is a p.points stood e leads
      by false e = far_written (Variable p.variable_is) (spot e) p.high_is a p.points stood
          (stored_here x.table x.blocks (all_sites x g line rest y) g.ground g.world l a s e leads)

  pub record WrittenAt (t : ℕ) (there : Where) : Type 0 where
    pub location_is : Location
    pub is : there ≡ Located location_is
    pub written : Written (location here t) location_is (looked x.table g.call.site (of_location t))

  pub written_at : (t : ℕ) (there : Where) → IsNamed g.call.site (of_location t) → is_standing (house g.call.site (of_location t)).kind ≡ true
      → g.call.temps.places t ≡ Some there → WrittenAt t there
  written_at t there n standing e = by (house g.call.site (of_location t)).alias refl (y.hold.0.led t there n e)
    where
      s : Shape
      s = looked x.table g.call.site (of_location t)

      as_location : (a : Alias) (l : Location) → (house g.call.site (of_location t)).alias ≡ a
          → Written (named here a (house g.call.site (of_location t))) l s → Written (location here t) l s
      as_location a l is w = subst (λ b. Written (named here b (house g.call.site (of_location t))) l s) (sym is) w

      far_own : (is : (house g.call.site (of_location t)).alias ≡ alias.Own) (other : Where) → there ≡ other → Stood other
          → IsAddressed x.table x.blocks (all_sites x g line rest y) g.ground g.world g.call t there → WrittenAt t there
      far_own is (Within temp path) at_l of r = absurd of
      far_own is (Located l) at_l of r =
          let there_is : IsThere g.call.site (of_location t) = record { among = n.among; number = n.number; kind = n.kind; own = is } in
          let p = address_in (of_location t) r.address there_is (location_address (house g.call.site (of_location t)) n.kind) r.holds in
          record {
            location_is = l;
            is = at_l;
            written = as_location alias.Own l is (at_far (of_location t) l r.address s p refl of
                (subst (λ w. Reaches x.table x.blocks (all_sites x g line rest y) g.ground g.world g.call.site g.call.temps w r.address s) at_l r.leads));
          }

      by_place : (p : ℕ) (global : Bool) → (house g.call.site (of_location t)).alias ≡ alias.Place p global
          → IsRoot x.table (all_sites x g line rest y) g.world g.call p global there → WrittenAt t there
      by_place p true is r =
          let ty = y.linked.0.aliased t p true n is in
          let filled : Filled g.world 0 p = subst (λ l. Filled g.world l p) r.level r.filled in
          let u = global_root x g line rest y p (type_of x.table (house g.call.site (of_location t))) ty filled in
          let site0 = u.start.site in
          let l : Location = root_of (Standing site0.level p) g.world in
          let at_l : there ≡ Located l = r.is ∙ ap (λ k. Located (root_of (Standing k p) g.world)) (r.level ∙ sym u.start.level) in
          let same : house site0 (of_place p) ≡ place here p true = sym u.global.same in
          let a : ℕ = address_of site0.base (house site0 (of_place p)).home in
          let own = own_root x g line rest y site0.level p u.root.value u.root.slot in
          let points : Points g.call.site.base g.call.vars (house site0 (of_place p)).home a
          = subst (λ h. Points g.call.site.base g.call.vars h (address_of site0.base h)) (sym u.global.home) refl in
          record {
            location_is = l;
            is = at_l;
            written = as_location (alias.Place p true) l is
                (subst (λ h. Written h l s) same (far_written (house site0 (of_place p)).home
                (spot_memory (house site0 (of_place p)) u.root.item.plain u.home) (high_in_memory (house site0 (of_place p)).home u.home) a points
                (inl (subst (λ (k : Location). IsOwned k.base) (sym own) tt))
                (inl (subst (λ k. FromPlace x.table (all_sites x g line rest y) g.world k a s) (sym own) (record {
                  site = site0;
                  among = u.start.among;
                  number = p;
                  base = refl;
                  filled = u.filled;
                  there = u.there;
                  home = u.home;
                  offset = 0;
                  path = (refl, ap (shape_of (facts_in x.table)) u.global.typed);
                  address = omega arith;
                })))));
          }
      by_place p false is r =
          let ty = y.linked.0.aliased t p false n is in
          let filled : Filled g.world g.call.site.level p = subst (λ l. Filled g.world l p) r.level r.filled in
          let typed = has_type x g.call.site (of_place p) (type_of x.table (house g.call.site (of_location t))) y.linked.0 ty in
          let there_is = place_there x g.call.site p y.linked.0 typed.named in
          let l : Location = root_of (Standing g.call.site.level p) g.world in
          let at_l : there ≡ Located l = r.is ∙ ap (λ k. Located (root_of (Standing k p) g.world)) r.level in
          let look = look_of x g.call.site (of_place p) (type_of x.table (house g.call.site (of_location t))) typed in
          let f = y.hold.0.filled p there_is filled in
          record {
            location_is = l;
            is = at_l;
            written = as_location (alias.Place p false) l is
                (of_call p l there_is look f refl (cases_Bool (owns (house g.call.site (of_place p)))));
          }
        where
          of_call : (p : ℕ) (l : Location) → IsThere g.call.site (of_place p) → looked x.table g.call.site (of_place p) ≡ s
              → IsFilled x.table x.blocks (all_sites x g line rest y) g.ground g.world g.call p → l ≡ root_of (Standing g.call.site.level p) g.world
              → (owns (house g.call.site (of_place p)) ≡ true) ⊎ (owns (house g.call.site (of_place p)) ≡ false)
              → Written (house g.call.site (of_place p)) l s
          of_call p l there_is look f root (inl own) =
              let v = f.own own in
              own_written p there_is own refl look v.0 v.1 (root ∙ own_root x g line rest y g.call.site.level p v.0 v.1)
          of_call p l there_is look f root (inr no_own) =
              let v = f.other no_own in
              let address = declared_address (house g.call.site (of_place p)) there_is.kind no_own in
              let q = address_in (of_place p) v.address there_is address v.holds in
              let same : v.location ≡ l = sym (ap (through_slot (Standing g.call.site.level p)) v.slot) ∙ sym root in
              at_far (of_place p) l v.address s q look (subst (λ (k : Location). IsStood k.base) same v.stood)
              (subst (λ k. ReachesHere x.table x.blocks (all_sites x g line rest y) g.ground g.world l v.address k) look
              (subst (λ k. ReachesHere x.table x.blocks (all_sites x g line rest y) g.ground g.world k v.address (looked x.table g.call.site (of_place p)))
              same v.leads))

      by : (a : Alias) → (house g.call.site (of_location t)).alias ≡ a → IsLedBy x.table x.blocks a (all_sites x g line rest y) g.ground g.world g.call t there
          → WrittenAt t there
      by alias.Own is r = far_own is there refl (r.standing standing) r
      by (alias.Place p global) is r = by_place p global is r
      by (alias.Value u) is r = never (sym (y.linked.0.valued t u n is).1 ∙ standing)
      by (alias.Node m) is r = never (sym r.read_only ∙ standing)
      by (alias.Text m size) is r = absurd r

  -- ---- a value is written

  module _ (h : Housed) (l : Location) (s : Shape) (numbers : of_numbers s ≡ true) (seen : is_seen g.world l ≡ true) (v : Value)
      (shaped : has_shape v s ≡ true) (from : Housed) (r : Read x g line rest y true from v)
      (code : code_here x g line rest y ≡ moves h from (code_next x g line rest y)) (temps : Temps) (same : SameTemps x g line rest y temps) (work : ℕ)
      (le : 10 + 2 * bytes v ≤ 256 * work) where
    abbrev Stored : Type 0
    Stored = Settles x (starts g line rest) rest (Passes (Answers [] work temps (store g.world l v)))

    abbrev sites : List Site
    sites = all_sites x g line rest y

    live : is_there g.world l ≡ true
    live = (and_parts (is_there g.world l) (is_whole g.world (load g.world l)) seen).0

    -- at an address
    module _ (home : Home) (spot : spot_of h ≡ Lies home) (high : IsHigh home) (a : ℕ) (points : Points g.call.site.base g.call.vars home a) where
      abbrev next : List WordInstr
      next = code_next x g line rest y

      put_there : Readable x sites y.linked g.memory a (bytes v)
          → ToMemory x.law x.live (all_procs x) (within x.table x.blocks g) refl g.words g.memory (moves h from next) g.call.vars a v (10 + 2 * bytes v) next
      put_there range =
          to_range_by x sites y.linked (within x.table x.blocks g) refl g.words g.memory y.memory next g.call.vars h from v r.word r.size r.small
          home spot a points range true r.source
          (λ b readable is_all. let w = is_all refl in separate_turned x sites y.linked b a (bytes v) (range.separate b w.0 w.1))

      far_settles : FromOwned x.table sites g.ground g.world l a s → Stored
      far_settles f =
          let p = put_there (subst (λ k. Readable x sites y.linked g.memory a k) (sym (bytes_is v s numbers shaped))
          (owned_readable x (starts g line rest) y l a s f live)) in
          goes_on x (starts g line rest)
          (changed_later g rest temps p.vars p.memory p.words p.awaits (store g.world l v)
          (ground_then x g line rest y l a s numbers live v shaped p.memory p.changed p.there f) g.input) rest
          (good_written x g line rest y l a s numbers live v shaped p.memory p.changed p.there f rest
          (stands_next x.table x.blocks (body_of g) line rest y.stands) temps same p.vars p.words p.awaits p.same)
          p.steps work temps (store g.world l v)
          (subst (λ k. Runs x.live (all_procs x) p.steps (at (within x.table x.blocks g) g.memory k g.call.vars g.words)
          (at (awaiting (within x.table x.blocks g) p.awaits) p.memory next p.vars p.words)) (sym code) p.runs)
          p.some (let k = p.few in omega (arith, k, le)) refl

      -- where nothing waits that would
      gone_settles : FromGone x (starts g line rest) y l a s → Stored
      gone_settles f =
          let p = put_there (subst (λ k. Readable x sites y.linked g.memory a k) (sym (bytes_is v s numbers shaped))
          (lying_readable x sites y.linked g.memory a (shape_bytes s) y.memory (waiting_lying x (starts g line rest) y l a s f.from))) in
          goes_on x (starts g line rest) (changed g rest temps p.vars p.memory p.words p.awaits (store g.world l v)) rest
          (gone_written x g line rest y l a s numbers live v shaped p.memory p.changed p.there f rest
          (stands_next x.table x.blocks (body_of g) line rest y.stands) temps same p.vars p.words p.awaits p.same)
          p.steps work temps (store g.world l v)
          (subst (λ k. Runs x.live (all_procs x) p.steps (at (within x.table x.blocks g) g.memory k g.call.vars g.words)
          (at (awaiting (within x.table x.blocks g) p.awaits) p.memory next p.vars p.words)) (sym code) p.runs)
          p.some (let k = p.few in omega (arith, k, le)) refl

    pub stored_settles : may_change l.base ≡ true → Written h l s → Stored
    stored_settles may (own_written n there own is look old slot l_is) =
        let shape : has_shape v (looked x.table g.call.site (of_place n)) ≡ true = subst (λ k. has_shape v k ≡ true) (sym look) shaped in
        let plain_is = own_plain (house g.call.site (of_place n)) own in
        let next = code_next x g line rest y in
        let get = subst (λ k. Gets x g line rest y k next (of_place n) v (10 + 2 * bytes v)) (sym (code ∙ ap (λ k. moves k from next) is))
        (gets_moved x g line rest y (of_place n) there plain_is v (ap of_numbers look ∙ numbers) shape next from r.word r.size r.small true r.source) in
        subst (λ k. Settles x (starts g line rest) rest (Passes (Answers [] work temps (store g.world k v)))) (sym l_is)
        (goes_on x (starts g line rest)
        (changed g rest temps get.vars get.memory get.words get.awaits (with_slot g.world g.call.site.level n (Some (Holds v)))) rest
        (good_place x g line rest y n there own v rest (stands_next x.table x.blocks (body_of g) line rest y.stands) temps same
        (code_here x g line rest y) next (10 + 2 * bytes v) (ap of_numbers look ∙ numbers) shape plain_is get)
        get.steps work temps (with_slot g.world g.call.site.level n (Some (Holds v))) get.runs get.some (let f = get.few in omega (arith, f, le)) refl)
    stored_settles may (far_written home spot high a points stood leads) =
        by (owned_or_gone x (starts g line rest) y l a s (may_owned l.base stood may) leads)
      where
        by : FromOwned x.table (all_sites x g line rest y) g.ground g.world l a s ⊎ FromGone x (starts g line rest) y l a s → Stored
        by (inl f) = far_settles home spot high a points f
        by (inr f) = gone_settles home spot high a points f
    stored_settles may (letter_written home spot high a points stood letter leads) =
        letter_settles x g line rest y l a (may_owned l.base stood may)
        (subst (ReachesHere x.table x.blocks (all_sites x g line rest y) g.ground g.world l a) (letter_is s letter) leads) seen h home spot points v
        (subst (λ k. has_shape v k ≡ true) (letter_is s letter) shaped) from true r code temps same work
        (let some = bytes_some v (values_of_numbers v s numbers shaped) in omega (arith, le, some))
