-- A temporary whose value is handed over has none any more, and one at whose home a value came to stand gets that.
use Rattle.std.proofs.Common.{◌≡◌, ◌≢◌, ◌⊎◌, inl, inr, ℕ, List, ◌∷◌, true, false, Some, None}
use Rattle.std.proofs.Common.{refl, sym, ap, subst, ◌∙◌}
use Rattle.std.specs.Prelude.{nat_eq}
use Rattle.std.proofs.lemmas.Bool.{cond-false, cond-true, eq-eqb, ne_eqb}
use Rattle.std.proofs.lemmas.Option.{none-some}
use Rattle.nim_meaning.specs.Values.{Value}
use Rattle.nim_meaning.specs.Deeds.{Answers, Done, Fails, Finishes}
use Rattle.flat_code.specs.declared.block.BlockLine.{BlockLine}
use Rattle.flat_code.specs.Scene.{Passes, Temps, with_value, without}
use Rattle.word_lowering.proofs.HeapKept.{heap_same}
use Rattle.word_lowering.proofs.Keeping.{Kept, New, call, nowhere, number_cases, own_text, value_no_location, value_no_place, value_no_waiting, worlds_same}
use Rattle.word_lowering.proofs.Lines.{Basis, IsGood, Settles, all_sites, changed, good_changed, starts, waits_below}
use Rattle.word_lowering.proofs.Options.{some_same}
use Rattle.word_lowering.proofs.Related.{Both, StandAt, body_of, store_of}
use Rattle.word_lowering.proofs.Scenes.{IsItem, IsThere, looked, of_value}
use Rattle.word_lowering.proofs.ShapeFacts.{never, of_numbers}

module _ (x : Basis) (g : Both) (line : BlockLine) (rest : List BlockLine) (y : IsGood x (starts g line rest)) (t : ℕ)
    (there : IsThere g.call.site (of_value t)) where
  other_number : (u : ℕ) → (g.call.site.level ≢ g.call.site.level) ⊎ (of_value u ≢ of_value t) → u ≢ t
  other_number u (inl ne) e = ne refl
  other_number u (inr ne) e = ne (ap of_value e)

  -- ---- it has none

  abbrev pub without_temps : Temps
  without_temps = record g.call.temps { values = without g.call.temps.values t }

  pub without_here : without_temps.values t ≡ None
  without_here = cond-true (nat_eq t t) None (g.call.temps.values t) (eq-eqb t t refl)

  pub without_away : (u : ℕ) → u ≢ t → without_temps.values u ≡ g.call.temps.values u
  without_away u ne = cond-false (nat_eq u t) None (g.call.temps.values u) (ne_eqb u t ne)

  abbrev pub forgotten : Both
  forgotten = changed g (line ∷ rest) without_temps g.call.vars g.memory g.words g.awaits g.world

  module _ (hooked : of_numbers (looked x.table g.call.site (of_value t)) ≡ false) where
    kept : Kept x.table x.blocks x.small (all_sites x g line rest y) y.linked g.call.site (of_value t) g.call.site g.call.temps without_temps g.call.vars
        g.call.vars
    kept = record {
      values = λ u i away. without_away u (other_number u away);
      places = λ u away. refl;
      texts = λ u n k i e away. without_away u (other_number u away);
      still = λ u v l h. still u v l h (number_cases u t);
      variables = λ f u i away home. refl;
      left = refl;
    }
      where
        still : (u : ℕ) (v : Value) → (IsThere g.call.site (of_value u) → of_numbers (looked x.table g.call.site (of_value u)) ≡ true)
            → g.call.temps.values u ≡ Some v → (u ≡ t) ⊎ (u ≢ t) → (w : Value) × (without_temps.values u ≡ Some w)
        still u v l h (inl e) =
            never (sym hooked ∙ subst (λ k. IsThere g.call.site (of_value k) → of_numbers (looked x.table g.call.site (of_value k)) ≡ true) e l there)
        still u v l h (inr ne) = (v, without_away u ne ∙ h)

    pub forgotten_good : IsGood x (starts forgotten line rest)
    forgotten_good =
        good_changed x g line rest y (line ∷ rest) g.call.site (of_value t) without_temps g.call.vars g.memory g.words g.awaits g.world y.memory
        (heap_same g.memory) (refl, refl) (nowhere refl)
        (worlds_same x.table x.blocks x.small (all_sites x g line rest y) y.linked g.call.site (of_value t) g.world) kept (λ e. new)
        (λ c from i e. absurd (waits_below x g line rest y c i e)) y.frames y.levels y.stands
      where
        new : New x.table x.blocks x.small (all_sites x g line rest y) y.linked g.call.site (of_value t) (store_of g) g.world (all_sites x g line rest y)
            (call g.call.site without_temps g.call.vars)
        new = record {
          item = λ u i h. absurd (none-some u (sym without_here ∙ h));
          text = λ u n j w e a h. own_text g.call.site (of_value u) n j (subst (IsThere g.call.site) (sym e) there) a;
          led = λ u other e n h. absurd (value_no_location t u (sym e));
          filled = λ n e h. absurd (value_no_place t n (sym e));
          waits = λ n e. absurd (value_no_waiting t n (sym e));
        }

    -- what a line does from there on it does from before
    pub from_forgotten : (done : Done Temps) → Settles x (starts forgotten line rest) rest (Passes done) → Settles x (starts g line rest) rest (Passes done)
    from_forgotten (Answers es k temps w) s = s
    from_forgotten (Finishes es k status w) s = s
    from_forgotten (Fails es k w) s = s

  -- ---- it gets one: of its temporaries the call has these, but for this value

  module _ (temps : Temps) (values : (u : ℕ) → u ≢ t → g.call.temps.values u ≡ temps.values u) (places : (u : ℕ) → g.call.temps.places u ≡ temps.places u)
      (v : Value) (item : IsItem x.table (store_of g) (call g.call.site (with_value t temps v) g.call.vars) (of_value t) v) where
    abbrev pub given_temps : Temps
    given_temps = with_value t temps v

    given_here : given_temps.values t ≡ Some v
    given_here = cond-true (nat_eq t t) (Some v) (temps.values t) (eq-eqb t t refl)

    given_away : (u : ℕ) → u ≢ t → given_temps.values u ≡ g.call.temps.values u
    given_away u ne = cond-false (nat_eq u t) (Some v) (temps.values u) (ne_eqb u t ne) ∙ sym (values u ne)

    kept_then : Kept x.table x.blocks x.small (all_sites x g line rest y) y.linked g.call.site (of_value t) g.call.site g.call.temps given_temps g.call.vars
        g.call.vars
    kept_then = record {
      values = λ u i away. given_away u (other_number u away);
      places = λ u away. sym (places u);
      texts = λ u n k i e away. given_away u (other_number u away);
      still = λ u w l h. still u w h (number_cases u t);
      variables = λ f u i away home. refl;
      left = refl;
    }
      where
        still : (u : ℕ) (w : Value) → g.call.temps.values u ≡ Some w → (u ≡ t) ⊎ (u ≢ t) → (z : Value) × (given_temps.values u ≡ Some z)
        still u w h (inl e) = (v, ap given_temps.values e ∙ given_here)
        still u w h (inr ne) = (w, given_away u ne ∙ h)

    pub given_good : (after : List BlockLine) → StandAt x.table x.blocks (body_of g) after
        → IsGood x (changed g after given_temps g.call.vars g.memory g.words g.awaits g.world)
    given_good after stand =
        good_changed x g line rest y after g.call.site (of_value t) given_temps g.call.vars g.memory g.words g.awaits g.world y.memory
        (heap_same g.memory) (refl, refl) (nowhere refl)
        (worlds_same x.table x.blocks x.small (all_sites x g line rest y) y.linked g.call.site (of_value t) g.world) kept_then (λ e. new)
        (λ c from i e. absurd (waits_below x g line rest y c i e)) y.frames y.levels stand
      where
        new : New x.table x.blocks x.small (all_sites x g line rest y) y.linked g.call.site (of_value t) (store_of g) g.world (all_sites x g line rest y)
            (call g.call.site given_temps g.call.vars)
        new = record {
          item = λ u i h. subst (λ w. IsItem x.table (store_of g) (call g.call.site given_temps g.call.vars) (of_value t) w) (same u h) item;
          text = λ u n j w e a h. own_text g.call.site (of_value u) n j (subst (IsThere g.call.site) (sym e) there) a;
          led = λ u other e n h. absurd (value_no_location t u (sym e));
          filled = λ n e h. absurd (value_no_place t n (sym e));
          waits = λ n e. absurd (value_no_waiting t n (sym e));
        }
          where
            same : (u : Value) → given_temps.values t ≡ Some u → v ≡ u
            same u h = some_same v u (sym given_here ∙ h)
