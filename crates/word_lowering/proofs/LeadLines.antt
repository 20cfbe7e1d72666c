-- Lines that make a temporary another name for a place or a value, and what gives it an address.
use Rattle.std.proofs.Common.{◌≡◌, ◌≢◌, ◌⊎◌, inl, inr, ℕ, List, [], Some, None, Bool, true, false, refl, sym, ap, subst, ◌∙◌, arith}
use Rattle.std.specs.Prelude.{nat_eq}
use Rattle.std.proofs.lemmas.Bool.{eqb-true, and_parts, cond-true, cond-false, eq-eqb, ne_eqb}
use Rattle.nim_meaning.specs.Values.{at_base, Waiting}
use Rattle.nim_meaning.specs.Places.{made}
use Rattle.flat_code.specs.declared.block.BlockLine.{BlockLine}
use Rattle.flat_code.specs.declared.line.Line.TheVariants as L
use Rattle.flat_code.specs.Fits.{is_standing}
use Rattle.flat_code.specs.Scene.{Where, Located, Within, with_place, Passes, Temps}
use Rattle.flat_code.specs.Lines.{leads, is_there}
use Rattle.word_code.specs.Words.{Vars}
use Rattle.word_lowering.specs.declared.homes.Alias.{Alias}
use Rattle.word_lowering.specs.declared.homes.Alias.TheVariants as alias
use Rattle.word_lowering.specs.declared.homes.TheConstants.{LEFT}
use Rattle.word_lowering.specs.MayLower.{same_alias}
use Rattle.flat_code.specs.Running.{scene_of}
use Rattle.nim_meaning.specs.Deeds.{Answers, give}
use Rattle.word_code.proofs.ForCallers.{at, none}
use Rattle.word_lowering.proofs.HeapKept.{heap_same}
use Rattle.word_lowering.proofs.ControlLines.{FollowedHere, SettlesHere, plain}
use Rattle.word_lowering.proofs.Keeping.{nowhere, Kept, New, call, location_no_place, value_no_location, worlds_same, location_no_waiting}
use Rattle.word_lowering.proofs.Lines.{Basis, IsGood, Settles, all_sites, changed, good_changed, stands_next, starts}
use Rattle.word_lowering.proofs.Lines.{stays_on, using_settles, waits_below}
use Rattle.word_lowering.proofs.Options.{some_same}
use Rattle.word_lowering.proofs.Related.{Both, StandAt, body_of, high, within, store_of}
use Rattle.word_lowering.proofs.Scenes.{IsLed, IsLedBy, IsThere, Name, house, number_in, of_location, HasVariable, of_waiting}
use Rattle.word_lowering.proofs.Settling.{LabelsLead, code_here, code_next}
use Rattle.word_lowering.proofs.ShapeFacts.{never}
use Rattle.word_lowering.proofs.Sites.{Site, type_of}
use Rattle.word_lowering.proofs.Targets.{leads_here, lasting, location_alias}

-- ---- names that are alike

pub place_alias : (a : Alias) (p : ℕ) (global : Bool) → same_alias a (alias.Place p global) ≡ true → a ≡ alias.Place p global
place_alias alias.Own p global h = never h
place_alias (alias.Value t) p global h = never h
place_alias (alias.Node n) p global h = never h
place_alias (alias.Text n size) p global h = never h
place_alias (alias.Place q true) p true h = ap (λ n. alias.Place n true) (eqb-true q p (and_parts (nat_eq q p) true h).0)
place_alias (alias.Place q false) p false h = ap (λ n. alias.Place n false) (eqb-true q p (and_parts (nat_eq q p) true h).0)
place_alias (alias.Place q true) p false h = never (and_parts (nat_eq q p) false h).1
place_alias (alias.Place q false) p true h = never (and_parts (nat_eq q p) false h).1

value_alias_is : (a : Alias) (t : ℕ) → same_alias a (alias.Value t) ≡ true → a ≡ alias.Value t
value_alias_is alias.Own t h = never h
value_alias_is (alias.Value u) t h = ap alias.Value (eqb-true u t h)
value_alias_is (alias.Node n) t h = never h
value_alias_is (alias.Text n size) t h = never h
value_alias_is (alias.Place q other) t h = never h

node_alias_is : (a : Alias) (n : ℕ) → same_alias a (alias.Node n) ≡ true → a ≡ alias.Node n
node_alias_is alias.Own n h = never h
node_alias_is (alias.Node m) n h = ap alias.Node (eqb-true m n h)
node_alias_is (alias.Value t) n h = never h
node_alias_is (alias.Text m size) n h = never h
node_alias_is (alias.Place q other) n h = never h

module _ (x : Basis) (g : Both) (line : BlockLine) (rest : List BlockLine) (y : IsGood x (starts g line rest)) where
  abbrev site : Site
  site = g.call.site

  -- a temporary leads elsewhere
  module _ (to : ℕ) (there : Where) (vars : Vars)
      (others : (f : Name) (u : ℕ) → IsThere g.call.site f → f ≢ of_location to → HasVariable g.call.site f u → vars u ≡ g.call.vars u)
      (left : vars LEFT ≡ g.call.vars LEFT)
      (leads_to : IsLed x.table x.blocks (all_sites x g line rest y) g.ground g.world (call g.call.site (with_place to g.call.temps there) vars) to there) where
    abbrev led_temps : Temps
    led_temps = with_place to g.call.temps there

    led_kept : Kept x.table x.blocks x.small (all_sites x g line rest y) y.linked site (of_location to) site g.call.temps led_temps g.call.vars vars
    led_kept = record {
      values = λ u i away. refl;
      places = λ u away. cond-false (nat_eq u to) (Some there) (g.call.temps.places u) (ne_eqb u to (different u away));
      texts = λ u n k i e away. refl;
      still = λ u w l h. (w, h);
      variables = λ f u other away home. others f u other (other_name f away) home;
      left = left;
    }
      where
        other_name : (f : Name) → (g.call.site.level ≢ g.call.site.level) ⊎ (f ≢ of_location to) → f ≢ of_location to
        other_name f (inl ne) = absurd (ne refl)
        other_name f (inr ne) = ne

        different : (u : ℕ) → (g.call.site.level ≢ g.call.site.level) ⊎ (of_location u ≢ of_location to) → u ≢ to
        different u (inl ne) e = ne refl
        different u (inr ne) e = ne (ap of_location e)

    led_new : New x.table x.blocks x.small (all_sites x g line rest y) y.linked site (of_location to) (store_of g) g.world (all_sites x g line rest y)
        (call g.call.site led_temps vars)
    led_new = record {
      item = λ u i h. absurd h;
      text = λ u n k w e a h. absurd (value_no_location u to e);
      led = λ u other e n h. subst (λ k. IsLed x.table x.blocks (all_sites x g line rest y) g.ground g.world (call g.call.site led_temps vars) k other)
          (sym (ap number_in e))
          (subst (IsLed x.table x.blocks (all_sites x g line rest y) g.ground g.world (call g.call.site led_temps vars) to) (same u other (ap number_in e) h)
          leads_to);
      filled = λ n e h. absurd (location_no_place to n (sym e));
      waits = λ n e. absurd (location_no_waiting to n (sym e));
    }
      where
        same : (u : ℕ) (other : Where) → u ≡ to → led_temps.places u ≡ Some other → there ≡ other
        same u other e h = some_same there other (sym (cond-true (nat_eq u to) (Some there) (g.call.temps.places u) (eq-eqb u to e)) ∙ h)

    pub good_led : (after : List BlockLine) → StandAt x.table x.blocks (body_of g) after
        → IsGood x (changed g after led_temps vars g.memory g.words g.awaits g.world)
    good_led after stands =
        good_changed x g line rest y after g.call.site (of_location to) led_temps vars g.memory g.words g.awaits g.world
        y.memory (heap_same g.memory) (refl, refl) (nowhere refl)
        (worlds_same x.table x.blocks x.small (all_sites x g line rest y) y.linked g.call.site (of_location to) g.world)
        led_kept (λ e. led_new) (λ c from i e. absurd (waits_below x g line rest y c i e)) y.frames y.levels stands

  -- without code, as another name
  pub named_settles : (to : ℕ) (there : Where) (a : Alias) (work : ℕ) → (house g.call.site (of_location to)).alias ≡ a
      → IsLedBy x.table x.blocks a (all_sites x g line rest y) g.ground g.world (call g.call.site (with_place to g.call.temps there) g.call.vars) to there
      → code_here x g line rest y ≡ code_next x g line rest y
      → Settles x (starts g line rest) rest (Passes (Answers [] work (with_place to g.call.temps there) g.world))
  named_settles to there a work is r none =
      stays_on x (starts g line rest) (changed g rest (with_place to g.call.temps there) g.call.vars g.memory g.words g.awaits g.world) rest
      (good_led to there g.call.vars (λ f u other ne home. refl) refl
      (subst (λ b. IsLedBy x.table x.blocks b (all_sites x g line rest y) g.ground g.world (call g.call.site (with_place to g.call.temps there) g.call.vars)
      to there)
      (sym is) r) rest (stands_next x.table x.blocks (body_of g) line rest y.stands))
      work (with_place to g.call.temps there) g.world (ap (λ k. at (within x.table x.blocks g) g.memory k g.call.vars g.words) (sym none)) refl
      (omega arith)

-- ---- lines

module _ (x : Basis) (labels : LabelsLead x) (g : Both) (rest : List BlockLine) (to : ℕ) where
  pub fresh_line : (from : ℕ) → FollowedHere x labels g rest (L.Fresh to from None)
  fresh_line from names y =
      let line = plain (L.Fresh to from None) in
      let a = value_alias_is (house g.call.site (of_location to)).alias from (location_alias x g line rest y to (alias.Value from) refl refl) in
      using_settles x (starts g line rest) rest (g.call.temps.values from)
      (λ v. leads (scene_of (high x.table x.blocks (starts g line rest))) to (Within from []) (made v))
      (λ v e. named_settles x g line rest y to (Within from []) (alias.Value from) 0 a
      (record { is = refl; lasting = lasting x g line rest y from (leads_here x g line rest y); value = v; has = e }) refl)

  -- to where the value waits, if it may: the temporary is of its type, and only read
  pub fresh_at_node : (from node : ℕ) → IsThere g.call.site (of_waiting node)
      → type_of x.table (house g.call.site (of_waiting node)) ≡ type_of x.table (house g.call.site (of_location to))
      → is_standing (house g.call.site (of_location to)).kind ≡ false → SettlesHere x labels g rest (L.Fresh to from (Some node))
  fresh_at_node from node there_is typed read_only y =
      let line = plain (L.Fresh to from (Some node)) in
      let a = node_alias_is (house g.call.site (of_location to)).alias node (location_alias x g line rest y to (alias.Node node) refl refl) in
      using_settles x (starts g line rest) rest (g.call.temps.values from)
      (λ v. leads (scene_of (high x.table x.blocks (starts g line rest))) to (Within from []) (give (at_base (Waiting g.call.site.level node))))
      (λ v e. named_settles x g line rest y to (Located (at_base (Waiting g.call.site.level node))) (alias.Node node) 0 a
      (record { is = refl; is_there = there_is; typed = typed; read_only = read_only }) refl)
