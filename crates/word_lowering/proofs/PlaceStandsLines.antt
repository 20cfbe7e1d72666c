-- The place of a loop stands for where an element is.
use Rattle.std.proofs.Common.{◌≡◌, ◌≢◌, ◌⊎◌, inl, inr, ℕ, ◌+◌, ◌^◌, ◌<◌, ◌≤◌, List, [], ◌∷◌, map, Option, Some, true, false, refl, sym, ap, subst, ◌∙◌, arith}
use Rattle.nim_meaning.specs.Values.{Value, Location, Holds, Stands, Standing, At, location_of}
use Rattle.nim_meaning.specs.State.{World, frame_at, slot_at, with_slot, with_slot_of}
use Rattle.nim_meaning.specs.Deeds.{Answers}
use Rattle.nim_meaning.specs.Places.{root_of, through_slot}
use Rattle.flat_code.specs.declared.block.BlockLine.{BlockLine}
use Rattle.flat_code.specs.declared.line.From.TheVariants as F
use Rattle.flat_code.specs.declared.line.Line.TheVariants as L
use Rattle.flat_code.specs.declared.line.Owning.TheVariants as W
use Rattle.flat_code.specs.Fits.{is_declared, is_location, place_named, if_type_of}
use Rattle.flat_code.specs.Scene.{Located, Passes, Where, location_at}
use Rattle.word_code.specs.declared.word.WordInstr.{WordInstr}
use Rattle.word_code.specs.Words.{Vars, put}
use Rattle.word_code.proofs.ForCallers.{Runs, at}
use Rattle.word_lowering.specs.declared.homes.TheConstants.{LEFT, OWN_FROM}
use Rattle.word_lowering.specs.declared.homes.Home.TheVariants.{Variable}
use Rattle.word_lowering.specs.declared.homes.Housed.{Housed}
use Rattle.word_lowering.specs.Aliases.{is_among, standing}
use Rattle.word_lowering.specs.Layouts.{owns, holds_address}
use Rattle.word_lowering.specs.LineCode.{variable_of, variable_in}
use Rattle.word_lowering.specs.Spots.{address}
use Rattle.word_lowering.proofs.AddressFacts.{at_homed}
use Rattle.word_lowering.proofs.ControlLines.{SettlesHere, plain}
use Rattle.word_lowering.proofs.Frames.{IsFrame, length_set, slot_elsewhere, slot_here}
use Rattle.word_lowering.proofs.GivenLines.{no_word}
use Rattle.word_lowering.proofs.Gets.{frame_of_site, frames_kept, kept_temps, same_temps}
use Rattle.word_lowering.proofs.HeapKept.{heap_same}
use Rattle.word_lowering.proofs.Keeping.{Worlds, away_cases, call, declared_address, location_no_place, nowhere, number_cases, place_no_waiting}
use Rattle.word_lowering.proofs.Keeping.{same_numbers, value_no_place}
use Rattle.word_lowering.proofs.LineFits.{are_of}
use Rattle.word_lowering.proofs.Lines.{Basis, IsGood, Settles, all_procs, all_sites, changed, fits_here, goes_on, good_changed, known, mapped_settles}
use Rattle.word_lowering.proofs.Lines.{stands_next}
use Rattle.word_lowering.proofs.Lines.{starts, waits_below}
use Rattle.word_lowering.proofs.Moves.{address_runs}
use Rattle.word_lowering.proofs.OrdinalRuns.{put_here, put_other}
use Rattle.word_lowering.proofs.ReadFacts.{here_near}
use Rattle.word_lowering.proofs.Related.{Both, StandAt, body_of, within}
use Rattle.word_lowering.proofs.Scenes.{Filled, HasVariable, IsFilled, IsNamed, IsStood, IsSteady, IsThere, Leads, LeadsHere, Name, ReachesHere, house}
use Rattle.word_lowering.proofs.Scenes.{is_stood, looked}
use Rattle.word_lowering.proofs.Scenes.{of_location, of_place}
use Rattle.word_lowering.proofs.Settling.{LabelsLead, code_next}
use Rattle.word_lowering.proofs.ShapeFacts.{never, of_numbers}
use Rattle.word_lowering.proofs.Sites.{AmongSites, Site, lines_of, Housing, data_end, is_one_word, room}
use Rattle.word_lowering.proofs.Sites.{by_address, in_data, in_places, in_variable}
use Rattle.word_lowering.proofs.SitesApart.{one_level, variables_apart, houses}
use Rattle.word_lowering.proofs.StandingAliases.{stands_among}
use Rattle.word_lowering.proofs.Targets.{pointed, stands_here}
use Rattle.word_lowering.proofs.ValueFacts.{IsHomed, has_type, look_of, place_there, type_in}
use Rattle.word_lowering.specs.declared.texts.TheConstants.{FIXED_BYTES}
use Rattle.nim_types.specs.Types.{Ty}
use Rattle.flat_code.specs.Codes.{block_plain}
use Rattle.word_lowering.proofs.Temporaries.{once_alike, slot_alike, waits_alike}

holds_no_stands : {A : Type 0} (v : Value) (l : Location) → Some (Stands l) ≡ Some (Holds v) → A
holds_no_stands v l e = absurd cc

-- ---- a place of the running call stands for a location

module _ (x : Basis) (g : Both) (line : BlockLine) (rest : List BlockLine) (y : IsGood x (starts g line rest)) (n : ℕ)
    (there : IsThere g.call.site (of_place n)) (no_own : owns (house g.call.site (of_place n)) ≡ false)
    (stood : is_among n (standing (lines_of (body_of g))) ≡ true) (l : Location) where
  abbrev sites : List Site
  sites = all_sites x g line rest y

  abbrev site : Site
  site = g.call.site

  abbrev pub stands_world : World
  stands_world = with_slot g.world g.call.site.level n (Some (Stands l))

  frame : IsFrame g.world site.level site.body.proc.first site.body.proc.span
  frame = frame_of_site x sites y.linked g.world sites g.call.site y.frames (inl refl)

  bounds : (site.body.proc.first ≤ n) × (n < site.body.proc.first + site.body.proc.span)
  bounds = y.linked.0.inside n (record { among = there.among; number = there.number; kind = there.kind })

  slot_is : slot_at stands_world site.level n ≡ Some (Stands l)
  slot_is = slot_here g.world g.call.site.level n (Some (Stands l)) g.call.site.body.proc.first g.call.site.body.proc.span frame bounds.0 bounds.1

  elsewhere_is : (s : Site) (m : ℕ) → AmongSites s sites → IsThere s (of_place m) → (s.level ≢ site.level) ⊎ (of_place m ≢ of_place n)
      → slot_at stands_world s.level m ≡ slot_at g.world s.level m
  elsewhere_is s m i other away =
      slot_elsewhere g.world g.call.site.level n (Some (Stands l)) s.level m g.call.site.body.proc.first g.call.site.body.proc.span frame bounds.0
      (elsewhere away (number_cases s.level g.call.site.level))
    where
      elsewhere : (s.level ≢ g.call.site.level) ⊎ (of_place m ≢ of_place n) → (s.level ≡ g.call.site.level) ⊎ (s.level ≢ g.call.site.level)
          → (s.level ≢ g.call.site.level) ⊎ ((g.call.site.body.proc.first ≤ m) × (m ≢ n))
      elsewhere away (inr ne) = inl ne
      elsewhere (inl ne) (inl e) = inl ne
      elsewhere (inr ne) (inl e) =
          let same : s ≡ g.call.site = one_level x.table x.blocks (all_sites x g line rest y) s g.call.site y.linked i (inl refl) e in
          let o : IsThere g.call.site (of_place m) = subst (λ (z : Site). IsThere z (of_place m)) same other in
          inr ((y.linked.0.inside m (record { among = o.among; number = o.number; kind = o.kind })).0, λ f. ne (ap of_place f))

  stands_worlds : Worlds x.table x.blocks x.small sites y.linked site (of_place n) g.world stands_world
  stands_worlds = record {
    slots = elsewhere_is;
    more = λ s m i other h. more s m i other h (cases s m);
    roots = λ s m i other h k. roots s m i other k (cases s m);
    waits = λ s node i a. waits_alike g.world stands_world (slot_alike g.world g.call.site.level n (Some (Stands l))) s.level node;
    once = λ s i h. once_alike g.world stands_world (slot_alike g.world g.call.site.level n (Some (Stands l))) s.level h;
    hand = refl;
  }
    where
      cases : (s : Site) (m : ℕ) → ((s.level ≡ g.call.site.level) × (of_place m ≡ of_place n)) ⊎ ((s.level ≢ g.call.site.level) ⊎ (of_place m ≢ of_place n))
      cases s m = away_cases x.table x.blocks x.small (all_sites x g line rest y) y.linked g.call.site (of_place n) s (of_place m)

      more : (s : Site) (m : ℕ) → AmongSites s (all_sites x g line rest y) → IsThere s (of_place m) → Filled g.world s.level m
          → ((s.level ≡ g.call.site.level) × (of_place m ≡ of_place n)) ⊎ ((s.level ≢ g.call.site.level) ⊎ (of_place m ≢ of_place n))
          → Filled stands_world s.level m
      more s m i other h (inr away) = (h.0, elsewhere_is s m i other away ∙ h.1)
      more s m i other h (inl same) = (
        Stands l,
        ap (λ k. slot_at stands_world k m) same.0 ∙ ap (slot_at stands_world g.call.site.level) (same_numbers (of_place m) (of_place n) same.1) ∙ slot_is,
      )

      -- it is none that leads to one location all the time
      changes : IsSteady g.call.site n → ⊥
      changes (inl own) = never (sym no_own ∙ own)
      changes (inr quiet) = never (sym quiet ∙ stood)

      roots : (s : Site) (m : ℕ) → AmongSites s (all_sites x g line rest y) → IsThere s (of_place m) → IsSteady s m
          → ((s.level ≡ g.call.site.level) × (of_place m ≡ of_place n)) ⊎ ((s.level ≢ g.call.site.level) ⊎ (of_place m ≢ of_place n))
          → root_of (Standing s.level m) stands_world ≡ root_of (Standing s.level m) g.world
      roots s m i other k (inr away) = ap (through_slot (Standing s.level m)) (elsewhere_is s m i other away)
      roots s m i other k (inl same) =
          absurd (changes (subst (λ j. IsSteady g.call.site j) (same_numbers (of_place m) (of_place n) same.1)
          (subst (λ (z : Site). IsSteady z m) (one_level x.table x.blocks (all_sites x g line rest y) s g.call.site y.linked i (inl refl) same.0) k)))

  module _ (vars : Vars) (a : ℕ) (holds : vars (variable_of (house g.call.site (of_place n))) ≡ Some a)
      (others : (f : Name) (u : ℕ) → IsThere g.call.site f → f ≢ of_place n → HasVariable g.call.site f u → vars u ≡ g.call.vars u)
      (left : vars LEFT ≡ g.call.vars LEFT) (may : IsStood l.base)
      (leads : LeadsHere x.table x.blocks (all_sites x g line rest y) g.ground g.world l a (looked x.table g.call.site (of_place n))) where
    leads_then : ReachesHere x.table x.blocks sites g.ground stands_world l a (looked x.table site (of_place n))
    leads_then = by leads
      where
        by : LeadsHere x.table x.blocks (all_sites x g line rest y) g.ground g.world l a (looked x.table g.call.site (of_place n))
            → ReachesHere x.table x.blocks (all_sites x g line rest y) g.ground stands_world l a (looked x.table g.call.site (of_place n))
        by (inl f) = inl (inl (record {
          site = f.site;
          among = f.among;
          number = f.number;
          base = f.base;
          filled = stands_worlds.more f.site f.number f.among f.there f.filled;
          there = f.there;
          home = f.home;
          offset = f.offset;
          path = f.path;
          address = f.address;
        }))
        by (inr f) = inl (inr f)

    pub good_stands : (after : List BlockLine) → StandAt x.table x.blocks (body_of g) after
        → IsGood x (changed g after g.call.temps vars g.memory g.words g.awaits stands_world)
    good_stands after stand =
        good_changed x g line rest y after g.call.site (of_place n) g.call.temps vars g.memory g.words g.awaits stands_world y.memory
        (heap_same g.memory) (refl, refl) (nowhere refl) stands_worlds
        (kept_temps x g line rest y g.call.site (of_place n) g.call.temps vars (same_temps x g line rest y)
        (λ f u other away home. others f u other (apart f away) home) left)
        (λ e. record {
          item = λ v i h. holds_no_stands v l (sym slot_is ∙ h);
          text = λ u j k w e b h. absurd (value_no_place u n e);
          led = λ u other e i k. absurd (location_no_place u n e);
          filled = λ m e k. subst (λ j. IsFilled x.table x.blocks sites g.ground stands_world (call site g.call.temps vars) j)
              (sym (same_numbers (of_place m) (of_place n) e)) (record {
                own = λ o. never (sym no_own ∙ o);
                other = λ o. record { location = l; slot = slot_is; address = a; holds = holds; stood = may; leads = leads_then };
              });
          waits = λ m e. absurd (place_no_waiting n m (sym e));
        })
        (λ c from i e. absurd (waits_below x g line rest y c i e))
        (frames_kept x sites y.linked g.world sites g.call.site.level n (Some (Stands l)) y.frames)
        (length_set g.world.frames g.call.site.level (with_slot_of (frame_at g.world g.call.site.level) n (Some (Stands l))) ∙ y.levels)
        stand
      where
        apart : (f : Name) → (g.call.site.level ≢ g.call.site.level) ⊎ (f ≢ of_place n) → f ≢ of_place n
        apart f (inl ne) e = ne refl
        apart f (inr ne) e = ne e

-- ---- the line

module _ (x : Basis) (labels : LabelsLead x) (g : Both) (rest : List BlockLine) (p t : ℕ) where
  abbrev stands_line : BlockLine
  stands_line = plain (L.Own (W.PlaceStands p) (F.Place t ∷ []))

  -- a place whose type has blocks, where the location leads into no temporary's value
  pub place_stands : of_numbers (looked x.table g.call.site (of_place p)) ≡ false → IsHomed x g.call.site t
      → ((there : Where) → g.call.temps.places t ≡ Some there → (l : Location) × (there ≡ Located l))
      → SettlesHere x labels g rest (L.Own (W.PlaceStands p) (F.Place t ∷ []))
  place_stands blocks_in homed is_located y =
      let f = are_of (any_place p) (type_in x is_location (body_of g) t) (fits_here x.table x.blocks (body_of g) stands_line rest y.stands) in
      let typed = has_type x g.call.site (of_place p) f.ty y.linked.0 f.is in
      let q = pointed x g stands_line rest y t f.ty f.is_other in
      mapped_settles x (starts g stands_line rest) rest (g.call.temps.places t) (λ place. At (location_at g.call.temps place))
      (λ z. Passes (Answers [] 1 g.call.temps (with_slot g.world g.call.site.level p (Some (Stands (location_of z))))))
      (λ there e. comes y (place_there x g.call.site p y.linked.0 typed.named) q.named (look_of x g.call.site (of_place p) f.ty typed ∙ sym q.look) there e
      (is_located there e))
    where
      any_place : ℕ → Option Ty
      any_place n = if_type_of (known x) (place_named is_declared (body_of g).proc.places n)

      comes : (y : IsGood x (starts g stands_line rest)) → IsThere g.call.site (of_place p) → IsNamed g.call.site (of_location t)
          → looked x.table g.call.site (of_place p) ≡ looked x.table g.call.site (of_location t) → (there : Where)
          → g.call.temps.places t ≡ Some there → (l : Location) × (there ≡ Located l)
          → Settles x (starts g stands_line rest) rest
          (Passes (Answers [] 1 g.call.temps (with_slot g.world g.call.site.level p (Some (Stands (location_at g.call.temps there))))))
      comes y place_is named look there e where_is =
          let sites : List Site = all_sites x g stands_line rest y in
          let l : Location = where_is.0 in
          let h : Housed = house g.call.site (of_place p) in
          let next : List WordInstr = code_next x g stands_line rest y in
          let stands = stands_here x g stands_line rest y p refl in
          let a = at_homed x g stands_line rest y t there named homed e
          (sym (ap is_one_word look) ∙ no_word (looked x.table g.call.site (of_place p)) blocks_in) in
          let leads : LeadsHere x.table x.blocks sites g.ground g.world l a.address (looked x.table g.call.site (of_place p))
          = subst (LeadsHere x.table x.blocks sites g.ground g.world l a.address) (sym look)
          (subst (λ z. Leads x.table x.blocks sites g.ground g.world g.call.site g.call.temps z a.address (looked x.table g.call.site (of_location t)))
          where_is.1 a.leads_to) in
          let near = here_near x sites y.linked g.ground g.world l a.address (looked x.table g.call.site (of_place p)) (inl leads) in
          let small : a.address < 2 ^ 32 = omega (arith, near) in
          let u : ℕ = variable_of h in
          let home = stands_home y place_is stands.1 in
          let vars : Vars = put g.call.vars u a.address in
          let stood : is_among p (standing (lines_of (body_of g))) ≡ true
          = subst (λ ls. is_among p (standing (map block_plain ls)) ≡ true) (sym y.stands.whole) (stands_among p y.stands.before stands_line rest refl) in
          subst (λ k. Settles x (starts g stands_line rest) rest
          (Passes (Answers [] 1 g.call.temps (with_slot g.world g.call.site.level p (Some (Stands k)))))) (sym (ap (location_at g.call.temps) where_is.1))
          (goes_on x (starts g stands_line rest) (changed g rest g.call.temps vars g.memory g.words g.awaits
          (stands_world x g stands_line rest y p place_is stands.1 stood l)) rest
          (good_stands x g stands_line rest y p place_is stands.1 stood l vars a.address (put_here g.call.vars u a.address small)
          (λ f v other ne has. put_other g.call.vars u a.address v
          (variables_apart x.table x.blocks g.call.site (of_place p) f u v y.linked.0 place_is other (λ s. ne (sym s)) home.0 has))
          (put_other g.call.vars u a.address LEFT (λ s. absurd (let low = home.1 in omega (arith, s, low))))
          (is_stood x.table x.blocks sites g.ground g.world l a.address (looked x.table g.call.site (of_place p)) leads) leads rest
          (stands_next x.table x.blocks (body_of g) stands_line rest y.stands))
          1 1 g.call.temps (stands_world x g stands_line rest y p place_is stands.1 stood l)
          (subst (λ z. Runs x.live (all_procs x) 1 (at (within x.table x.blocks g) g.memory (address u z ∷ next) g.call.vars g.words)
          (at (within x.table x.blocks g) g.memory next vars g.words)) (sym a.home_is)
          (address_runs x.law x.live (all_procs x) (within x.table x.blocks g) refl g.words g.memory next g.call.vars u a.home a.address a.points))
          (omega arith) (omega arith) refl)
        where
          -- the address is in a variable of its own
          stands_home : (y : IsGood x (starts g stands_line rest)) → IsThere g.call.site (of_place p) → owns (house g.call.site (of_place p)) ≡ false
              → HasVariable g.call.site (of_place p) (variable_of (house g.call.site (of_place p)))
              × (OWN_FROM ≤ variable_of (house g.call.site (of_place p)))
          stands_home y place_is no_own =
              let address = declared_address (house g.call.site (of_place p)) place_is.kind no_own in
              by (houses x.table x.blocks g.call.site (of_place p) y.linked.0 place_is).where_is address
            where
              by : Housing (room (body_of g)) FIXED_BYTES (data_end x.table x.blocks) (body_of g).start (house g.call.site (of_place p))
                  → holds_address (house g.call.site (of_place p)) ≡ true
                  → HasVariable g.call.site (of_place p) (variable_of (house g.call.site (of_place p)))
                  × (OWN_FROM ≤ variable_of (house g.call.site (of_place p)))
              by (in_variable v e plain least w) address = never (sym plain ∙ address)
              by (by_address v e k least) address = (
                e ∙ ap Variable (sym (ap variable_in e)),
                subst (λ u. OWN_FROM ≤ u) (sym (ap variable_in e)) least,
              )
              by (in_places m e plain whole within) address = never (sym plain ∙ address)
              by (in_data m e plain whole least within start) address = never (sym plain ∙ address)
