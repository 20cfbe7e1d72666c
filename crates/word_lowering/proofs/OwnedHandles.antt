-- Where the handle of a text or a sequence stands that a row changes: at the address of what a location leads to, which somebody owns.
use Rattle.std.proofs.Common.{◌≡◌, ◌⊎◌, inl, inr, ℕ, List, Some, Bool, true, false, refl, sym, ap, subst, ◌∙◌, arith}
use Rattle.nim_meaning.specs.State.{is_there, is_whole, load}
use Rattle.nim_meaning.specs.Places.{may_change}
use Rattle.nim_meaning.specs.Values.{Base, Holds, Location, Made}
use Rattle.flat_code.specs.declared.block.BlockLine.{BlockLine}
use Rattle.flat_code.specs.Scene.{Located, Where, location_at}
use Rattle.flat_code.specs.Shapes.{Shape, block, elements}
use Rattle.word_lowering.specs.declared.homes.Home.{Home as Place}
use Rattle.word_lowering.specs.declared.homes.Home.TheVariants.{Placed, Static, Variable}
use Rattle.word_lowering.specs.declared.homes.Housed.{Housed}
use Rattle.word_lowering.specs.declared.spots.Spot.TheVariants.{Lies}
use Rattle.word_lowering.specs.Layouts.{holds_address}
use Rattle.word_lowering.specs.Operands.{location}
use Rattle.word_lowering.specs.Spots.{home_in, spot_by, spot_of}
use Rattle.word_lowering.proofs.AddressFacts.{in_memory}
use Rattle.word_lowering.proofs.LetterShapes.{no_letter}
use Rattle.word_lowering.proofs.HandleRows.{IsHandled}
use Rattle.word_lowering.proofs.Keeping.{points_there}
use Rattle.word_lowering.proofs.MovedLines.{own_plain}
use Rattle.word_lowering.proofs.GoodLeads.{data_base, owned_or_data, owned_seen}
use Rattle.word_lowering.proofs.Lines.{Basis, IsGood, all_sites, starts}
use Rattle.word_lowering.proofs.Located.{owned_readable}
use Rattle.word_lowering.proofs.OutPlaces.{Written, far_written, high_in_memory, letter_written, own_written, written_at}
use Rattle.word_lowering.proofs.Related.{Both, body_of}
use Rattle.word_lowering.proofs.Scenes.{FromData, FromOwned, IsMade, IsNamed, IsOwned, address_of, house, looked, of_location, of_place}
use Rattle.word_lowering.proofs.ShapeFacts.{never}
use Rattle.word_lowering.proofs.Sites.{around, is_one_word}
use Rattle.word_lowering.proofs.TextRowRuns.{IsAt}
use Rattle.flat_code.specs.Fits.{is_standing}

-- where a spot lies is where a home is
pub lies_at : (h : Housed) (home : Place) → spot_of h ≡ Lies home → h.home ≡ home
lies_at h home e = by (holds_address h) h.is_letter h.home ∙ ap home_in e
  where
    by : (address letter : Bool) (p : Place) → p ≡ home_in (spot_by address letter p)
    by false letter (Variable v) = refl
    by false letter (Placed at) = refl
    by false letter (Static at) = refl
    by true false p = refl
    by true true p = refl

no_word : (s : Shape) → IsHandled s → is_one_word s ≡ false
no_word block h = refl
no_word (elements s) h = refl
no_word s h = absurd h

module _ (x : Basis) (g : Both) (line : BlockLine) (rest : List BlockLine) (y : IsGood x (starts g line rest)) where
  -- at the address to which the home of the location's house points
  pub record OwnedAt (t : ℕ) (there : Where) (s : Shape) : Type 0 where
    pub location_is : Location
    pub is : there ≡ Located location_is
    pub address : ℕ
    pub owned : FromOwned x.table (all_sites x g line rest y) g.ground g.world location_is address s
    pub at_home : IsAt g.call.site.base g.call.vars (location (around x.table x.blocks (body_of g)) t).home address

  -- it isn't in a constant
  abbrev pub IsNoData : (there : Where) → Shape → Type 0
  IsNoData there s = (l : Location) (a : ℕ) → there ≡ Located l → FromData x.table x.blocks g.ground l a s → ⊥

  made_still : (b : Base) → IsMade b → may_change b ≡ true → ⊥
  made_still (Made v) made changes = never changes
  made_still b made changes = absurd made

  -- a constant never changes
  pub no_constant : (there : Where) (s : Shape) → may_change (location_at g.call.temps there).base ≡ true → IsNoData there s
  no_constant there s changes k a is f =
      made_still k.base (data_base x (starts g line rest) y k a s f)
      (sym (ap (λ w. may_change (location_at g.call.temps w).base) is) ∙ changes)

  -- of what is no word
  pub owned_many : (t : ℕ) (there : Where) → IsNamed g.call.site (of_location t)
      → is_standing (house g.call.site (of_location t)).kind ≡ true → g.call.temps.places t ≡ Some there → (s : Shape) → IsNoData there s
      → is_one_word s ≡ false
      → looked x.table g.call.site (of_location t) ≡ s → is_there g.world (location_at g.call.temps there) ≡ true
      → is_whole g.world (load g.world (location_at g.call.temps there)) ≡ true → OwnedAt t there s
  owned_many t there n standing e s no_data many look live whole =
      let w = written_at x g line rest y t there n standing e in
      by w.location_is w.is
      (subst (λ u. Written x g line rest y (location (around x.table x.blocks (body_of g)) t) w.location_is u) look w.written)
    where
      h : Housed
      h = location (around x.table x.blocks (body_of g)) t

      live_at : (l : Location) → there ≡ Located l → is_there g.world l ≡ true
      live_at l is = subst (λ w. is_there g.world (location_at g.call.temps w) ≡ true) is live

      own : (l : Location) (a : ℕ) → there ≡ Located l → IsOwned l.base ⊎ FromData x.table x.blocks g.ground l a s → IsOwned l.base
      own l a is (inl owned) = owned
      own l a is (inr f) = absurd (no_data l a is f)

      by : (l : Location) → there ≡ Located l → Written x g line rest y (location (around x.table x.blocks (body_of g)) t) l s → OwnedAt t there s
      by l is (own_written p there_is own same other old slot at) =
          let home : Place = (house g.call.site (of_place p)).home in
          let a : ℕ = address_of g.call.site.base home in
          let inside = in_memory x g line rest y (of_place p) there_is (own_plain (house g.call.site (of_place p)) own)
          (ap is_one_word other ∙ many) in
          let owned : FromOwned x.table (all_sites x g line rest y) g.ground g.world l a s
          = subst (λ k. FromOwned x.table (all_sites x g line rest y) g.ground g.world k a s) (sym at) (inl (record {
            site = g.call.site;
            among = inl refl;
            number = p;
            base = refl;
            filled = (Holds old, slot);
            there = there_is;
            home = inside;
            offset = 0;
            path = (refl, other);
            address = omega arith;
          })) in
          let near = (owned_readable x (starts g line rest) y l a s owned (live_at l is)).near in
          record {
            location_is = l;
            is = is;
            address = a;
            owned = owned;
            at_home = subst (λ k. IsAt g.call.site.base g.call.vars k a) (sym (ap (λ (k : Housed). k.home) same)) (record {
              points = points_there g.call.site.base g.call.vars home inside;
              high = high_in_memory home inside;
              small = omega (arith, near);
            });
          }
      by l is (letter_written home spot high a points may letter leads) = never (sym (no_letter s many) ∙ letter)
      by l is (far_written home spot high a points stood leads) =
          let owned : FromOwned x.table (all_sites x g line rest y) g.ground g.world l a s
          = owned_seen x (starts g line rest) y l a s (own l a is (owned_or_data x (starts g line rest) y l a s leads)) leads
          (subst (λ w. is_whole g.world (load g.world (location_at g.call.temps w)) ≡ true) is whole) in
          let near = (owned_readable x (starts g line rest) y l a s owned (live_at l is)).near in
          record {
            location_is = l;
            is = is;
            address = a;
            owned = owned;
            at_home = subst (λ k. IsAt g.call.site.base g.call.vars k a) (sym (lies_at h home spot))
                (record { points = points; high = high; small = omega (arith, near) });
          }

  pub owned_at : (t : ℕ) (there : Where) → IsNamed g.call.site (of_location t)
      → is_standing (house g.call.site (of_location t)).kind ≡ true → g.call.temps.places t ≡ Some there → (s : Shape) → IsNoData there s → IsHandled s
      → looked x.table g.call.site (of_location t) ≡ s → is_there g.world (location_at g.call.temps there) ≡ true
      → is_whole g.world (load g.world (location_at g.call.temps there)) ≡ true → OwnedAt t there s
  owned_at t there n standing e s no_data handled look live whole = owned_many t there n standing e s no_data (no_word s handled) look live whole
