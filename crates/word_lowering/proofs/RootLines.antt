-- The line that leads to a place: the location is another name for it, or gets the address at which it stands.
use Rattle.std.proofs.Common.{◌≡◌, ◌⊎◌, inl, inr, ℕ, ◌^◌, ◌<◌, List, [], ◌∷◌, map, Option, Some, None, Bool, true, false, refl, sym, ap, subst, ◌∙◌, arith}
use Rattle.std.specs.Prelude.{not}
use Rattle.std.proofs.lemmas.Bool.{and_parts}
use Rattle.nim_types.specs.Types.{Ty}
use Rattle.nim_program.specs.Kinds.{is_of}
use Rattle.nim_meaning.specs.Values.{Location, Slot, Standing}
use Rattle.nim_meaning.specs.State.{slot_at}
use Rattle.nim_meaning.specs.Deeds.{Answers}
use Rattle.nim_meaning.specs.Places.{place_at, root_of, rooted, through_slot}
use Rattle.flat_code.specs.declared.block.BlockLine.{BlockLine}
use Rattle.flat_code.specs.declared.line.Line.TheVariants as L
use Rattle.flat_code.specs.Fits.{is_location}
use Rattle.flat_code.specs.Fits as fit
use Rattle.flat_code.specs.Lines.{is_there, leads, level_at}
use Rattle.flat_code.specs.Running.{scene_of}
use Rattle.flat_code.specs.Scene.{Located, Passes, with_place, Fails}
use Rattle.word_code.specs.declared.word.WordInstr.{WordInstr}
use Rattle.word_code.specs.Words.{put}
use Rattle.word_lowering.specs.declared.homes.Alias.{Alias}
use Rattle.word_lowering.specs.declared.homes.Alias.TheVariants as alias
use Rattle.word_lowering.specs.declared.homes.Home.{Home}
use Rattle.word_lowering.specs.declared.homes.Housed.{Housed}
use Rattle.word_lowering.specs.Aliases.{own_where, standing}
use Rattle.word_lowering.specs.Layouts.{owns}
use Rattle.word_lowering.specs.LineCode.{led, place, root_code, variable_of}
use Rattle.word_lowering.specs.MayLower.{same_alias}
use Rattle.word_lowering.specs.Spots.{address}
use Rattle.word_lowering.proofs.AddressFacts.{address_in}
use Rattle.word_lowering.proofs.ControlLines.{FollowedHere, plain}
use Rattle.word_lowering.proofs.HandedPlaces.{is_steady}
use Rattle.word_lowering.proofs.Keeping.{declared_address}
use Rattle.word_lowering.proofs.LeadLines.{named_settles, place_alias}
use Rattle.word_lowering.proofs.LineFits.{are_of}
use Rattle.word_lowering.proofs.Lines.{Basis, IsGood, Settles, all_procs, all_sites, branch_settles, fits_here, known, starts}
use Rattle.word_lowering.proofs.Moves.{address_runs, all_same}
use Rattle.word_lowering.proofs.OperationRuns.{Given}
use Rattle.word_lowering.proofs.OrdinalRuns.{but_one, put_here}
use Rattle.word_lowering.proofs.PartLines.{led_home, led_variable, leads_settles, own_location}
use Rattle.word_lowering.proofs.ReadFacts.{here_near, start_site}
use Rattle.word_lowering.proofs.Related.{Both, body_of, called_by, high, within}
use Rattle.word_lowering.proofs.Scenes.{Filled, IsNamed, IsSteady, IsThere, ReachesHere, Points, StandsFor, house, looked, of_location, of_place, site_of}
use Rattle.word_lowering.proofs.Settling.{LabelsLead, code_here, code_next}
use Rattle.word_lowering.proofs.ShapeFacts.{never}
use Rattle.word_lowering.proofs.Sites.{AmongSites, Site, around, globals_of, lines_of, sigs}
use Rattle.word_lowering.proofs.StandingAliases.{own_or_same, standing_lent, stood_among}
use Rattle.word_lowering.proofs.Targets.{location_alias, own_alias, pointed}
use Rattle.word_lowering.proofs.ValueFacts.{has_type, look_of, place_there, type_in, with_home}
use Rattle.nim_meaning.specs.Acts.{branch}

filled_there : (o : Option Slot) → is_there o ≡ true → (slot : Slot) × (o ≡ Some slot)
filled_there None h = never h
filled_there (Some slot) h = (slot, refl)

no_value : (b : Bool) → not b ≡ true → b ≡ false
no_value true h = never h
no_value false h = refl

module _ (x : Basis) (labels : LabelsLead x) (g : Both) (rest : List BlockLine) (to p : ℕ) where
  abbrev root_here : Bool → BlockLine
  root_here global = plain (L.Root to p global)

  abbrev placed : Bool → Option Ty
  placed global = fit.any_place (known x) (sigs x.table x.blocks) (globals_of x.table x.blocks) (body_of g).proc.places p global

  abbrev rooted_at : (level : ℕ) → Location
  rooted_at level = root_of (Standing level p) g.world

  abbrev root_alias : Alias
  root_alias = (house g.call.site (of_location to)).alias

  -- ---- another name for the place

  -- the call whose place it is
  record RootSite (global : Bool) (y : IsGood x (starts g (root_here global) rest)) : Type 0 where
    site : Site
    among : AmongSites site (all_sites x g (root_here global) rest y)
    level : site.level ≡ level_at global g.call.site.level
    there : IsThere site (of_place p)
    steady : IsSteady site p

  named_root : (global : Bool) (y : IsGood x (starts g (root_here global) rest)) → root_alias ≡ alias.Place p global → RootSite global y
      → is_there (slot_at g.world (level_at global g.call.site.level) p) ≡ true
      → Settles x (starts g (root_here global) rest) rest (Passes (Answers [] 1
      (with_place to g.call.temps (Located (rooted_at (level_at global g.call.site.level)))) g.world))
  named_root global y a s h =
      let level : ℕ = level_at global g.call.site.level in
      named_settles x g (root_here global) rest y to (Located (rooted_at level)) (alias.Place p global) 1 a (record {
        site = s.site;
        among = s.among;
        level = s.level;
        is_there = s.there;
        steady = s.steady;
        filled = subst (λ l. Filled g.world l p) (sym s.level) (filled_there (slot_at g.world level p) h);
        is = ap (λ l. Located (rooted_at l)) (sym s.level);
      })
      (ap (λ b. root_code b (led (around x.table x.blocks (body_of g)) to) (place (around x.table x.blocks (body_of g)) p global).home
      (code_next x g (root_here global) rest y)) a)

  -- ---- the address of a place of the call that stands by one

  module _ (y : IsGood x (starts g (root_here false) rest)) (ty : Ty) (named : IsNamed g.call.site (of_location to))
      (look : looked x.table g.call.site (of_place p) ≡ looked x.table g.call.site (of_location to)) (place_is : IsThere g.call.site (of_place p))
      (own : own_where (standing (lines_of (body_of g))) (alias.Place p false) ≡ alias.Own) where
    abbrev line : BlockLine
    line = root_here false

    abbrev next : List WordInstr
    next = code_next x g line rest y

    abbrev home : Home
    home = (house g.call.site (of_place p)).home

    there_to : IsThere g.call.site (of_location to)
    there_to = with_home x named (own_alias root_alias
        (subst (λ b. same_alias root_alias b ≡ true) own (location_alias x g line rest y to (alias.Place p false) refl refl))) tt

    no_own : owns (house g.call.site (of_place p)) ≡ false
    no_own =
        let h : Housed = house g.call.site (of_place p) in
        no_value (owns h) (and_parts h.lent (not (owns h)) (standing_lent x.table (body_of g).own.all (standing (lines_of (body_of g))) p
        (lines_of (body_of g)) y.linked.0.may (stood_among (standing (lines_of (body_of g))) p own))).1

    module _ (v : StandsFor x.table x.blocks (all_sites x g line rest y) g.ground g.world g.call p) where
      points : Points g.call.site.base g.call.vars home v.address
      points =
          let q = address_in x g line rest y (of_place p) v.address place_is (declared_address (house g.call.site (of_place p)) place_is.kind no_own) v.holds in
          subst (λ h. Points g.call.site.base g.call.vars h v.address) (sym q.home) q.points

      small : v.address < 2 ^ 32
      small =
          let near = here_near x (all_sites x g line rest y) y.linked g.ground g.world v.location v.address (looked x.table g.call.site (of_place p)) v.leads in
          omega (arith, near)

      comes : Given x.live (all_procs x) (within x.table x.blocks g) g.memory g.words (code_here x g line rest y) g.call.vars (led_variable x g line rest y to)
          v.address next
      comes =
          let t : ℕ = led_variable x g line rest y to in
          let h = led_home x g line rest y to there_to in
          let code : address t home ∷ next ≡ code_here x g line rest y
          = sym (ap (λ b. root_code b (led (around x.table x.blocks (body_of g)) to) home next) there_to.own
          ∙ ap (λ u. address (variable_of u) home ∷ next) (own_location x g line rest y to there_to)) in
          subst (λ l. Given x.live (all_procs x) (within x.table x.blocks g) g.memory g.words l g.call.vars t v.address next) code (record {
            steps = 1;
            some = omega arith;
            few = omega arith;
            gives = record {
              vars = put g.call.vars t v.address;
              given = put_here g.call.vars t v.address small;
              but = but_one g.call.vars g.call.vars t v.address h.high_is (all_same g.call.vars);
              runs = address_runs x.law x.live (all_procs x) (within x.table x.blocks g) refl g.words g.memory next g.call.vars t home v.address points;
            };
          })

      stands_settles : Settles x (starts g line rest) rest (Passes (Answers [] 1 (with_place to g.call.temps (Located (rooted_at g.call.site.level))) g.world))
      stands_settles =
          subst (λ l. Settles x (starts g line rest) rest (Passes (Answers [] 1 (with_place to g.call.temps (Located l)) g.world)))
          (sym (ap (through_slot (Standing g.call.site.level p)) v.slot))
          (leads_settles x g line rest y to (Located v.location) v.address 1 (omega arith) there_to (λ st. v.stood)
          (subst (ReachesHere x.table x.blocks (all_sites x g line rest y) g.ground g.world v.location v.address) look v.leads) comes)

    own_root : is_there (slot_at g.world g.call.site.level p) ≡ true
        → Settles x (starts g line rest) rest (Passes (Answers [] 1 (with_place to g.call.temps (Located (rooted_at g.call.site.level))) g.world))
    own_root h = stands_settles ((y.hold.0.filled p place_is (filled_there (slot_at g.world g.call.site.level p) h)).other no_own)

  -- ---- the line

  root_by : (global : Bool) (y : IsGood x (starts g (root_here global) rest))
      → (is_there (slot_at g.world (level_at global g.call.site.level) p) ≡ true → Settles x (starts g (root_here global) rest) rest
      (Passes (Answers [] 1 (with_place to g.call.temps (Located (rooted_at (level_at global g.call.site.level)))) g.world)))
      → Settles x (starts g (root_here global) rest) rest (branch (is_there (slot_at g.world (level_at global g.call.site.level) p))
      (leads (scene_of (high x.table x.blocks (starts g (root_here global) rest))) to (Located (place_at 0 0))
      (rooted (Standing (level_at global g.call.site.level) p))) Fails)
  root_by global y done =
      branch_settles x (starts g (root_here global) rest) rest (is_there (slot_at g.world (level_at global g.call.site.level) p))
      (leads (scene_of (high x.table x.blocks (starts g (root_here global) rest))) to (Located (place_at 0 0))
      (rooted (Standing (level_at global g.call.site.level) p))) Fails done (λ h before. tt)

  pub root_line : (global : Bool) → FollowedHere x labels g rest (L.Root to p global)
  root_line true names y =
      let f = and_parts (is_of (type_in x is_location (body_of g) to) (placed true)) _
      (fits_here x.table x.blocks (body_of g) (root_here true) rest y.stands) in
      let v = are_of (type_in x is_location (body_of g) to) (placed true) f.0 in
      let s = start_site x.table x.blocks g.call.site (map site_of (map called_by g.waiting)) y.linked in
      let global = s.body.global s.start p v.ty v.is_other in
      let a = place_alias root_alias p true (location_alias x g (root_here true) rest y to (alias.Place p true) refl refl) in
      root_by true y (named_root true y a
      (record { site = s.site; among = s.among; level = s.level; there = place_there x s.site p s.body global.there; steady = inl global.own }))
  root_line false names y =
      let f = and_parts (is_of (type_in x is_location (body_of g) to) (placed false)) _
      (fits_here x.table x.blocks (body_of g) (root_here false) rest y.stands) in
      let v = are_of (type_in x is_location (body_of g) to) (placed false) f.0 in
      let typed = has_type x g.call.site (of_place p) v.ty y.linked.0 v.is_other in
      let place_is = place_there x g.call.site p y.linked.0 typed.named in
      let q = pointed x g (root_here false) rest y to v.ty v.is in
      let look = look_of x g.call.site (of_place p) v.ty typed ∙ sym q.look in
      root_by false y (by y v.ty q.named look place_is (own_or_same (standing (lines_of (body_of g))) (alias.Place p false)))
    where
      by : (y : IsGood x (starts g (root_here false) rest)) → Ty → IsNamed g.call.site (of_location to)
          → looked x.table g.call.site (of_place p) ≡ looked x.table g.call.site (of_location to) → IsThere g.call.site (of_place p)
          → (own_where (standing (lines_of (body_of g))) (alias.Place p false) ≡ alias.Own)
          ⊎ (own_where (standing (lines_of (body_of g))) (alias.Place p false) ≡ alias.Place p false)
          → is_there (slot_at g.world g.call.site.level p) ≡ true
          → Settles x (starts g (root_here false) rest) rest
          (Passes (Answers [] 1 (with_place to g.call.temps (Located (rooted_at g.call.site.level))) g.world))
      by y ty named look place_is (inl own) h = own_root y ty named look place_is own h
      by y ty named look place_is (inr same) h =
          let a = place_alias root_alias p false (subst (λ b. same_alias root_alias b ≡ true) same
          (location_alias x g (root_here false) rest y to (alias.Place p false) refl refl)) in
          named_root false y a (record {
            site = g.call.site;
            among = inl refl;
            level = refl;
            there = place_is;
            steady = inr (is_steady x.table x.blocks (body_of g) y.linked.0 to p named a);
          }) h
