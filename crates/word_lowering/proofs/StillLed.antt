-- A part of what somebody owns gets another value: places that were filled are still, and what waited does.
use Rattle.std.proofs.Common.{◌≡◌, ◌≢◌, ◌⊎◌, inl, inr, ℕ, List, Some, sym, ap, subst, ◌∙◌}
use Rattle.std.specs.Prelude.{slice_get}
use Rattle.nim_meaning.specs.Values.{Value, Location, Holds, put_part}
use Rattle.nim_meaning.specs.State.{slot_of, frame_in, whole_at, stored, store, held, awaited, temporary_at, temporary_in}
use Rattle.flat_code.specs.declared.block.BlockLine.{BlockLine}
use Rattle.flat_code.specs.Shapes.{Shape}
use Rattle.word_lowering.proofs.GoodLeads.{OwnHome, own_home}
use Rattle.word_lowering.proofs.GoodWaiting.{put_waiting, waiting_new, waiting_worlds}
use Rattle.word_lowering.proofs.Keeping.{away_cases, place_no_waiting, same_numbers}
use Rattle.word_lowering.proofs.Lines.{Basis, IsGood, all_sites, starts}
use Rattle.word_lowering.proofs.PlaceWorlds.{put_world, put_worlds}
use Rattle.word_lowering.proofs.Related.{Both}
use Rattle.word_lowering.proofs.ResizedWorlds.{stack_of, frames_of}
use Rattle.word_lowering.proofs.Scenes.{Filled, FromBlock, FromOwned, FromPlace, FromWaits, IsThere, of_place, of_waiting}
use Rattle.word_lowering.proofs.Sites.{AmongSites, Site}

module _ (x : Basis) (g : Both) (line : BlockLine) (rest : List BlockLine) (y : IsGood x (starts g line rest)) (l : Location) (a : ℕ) (t : Shape)
    (v : Value) where
  abbrev sites : List Site
  sites = all_sites x g line rest y

  abbrev here : Both
  here = starts g line rest

  abbrev Owns : Type 0
  Owns = FromOwned x.table sites g.ground g.world l a t

  -- ---- what block code does

  module _ (f : FromPlace x.table sites g.world l a t) where
    own : OwnHome x here y f.site f.number
    own = own_home x here y f.site f.number f.among f.filled f.there f.home

    abbrev new : Value
    new = put_part own.value l.path v

    place_is : store g.world l v ≡ put_world x g line rest y f.site f.among f.number f.there own.value own.slot new
    place_is = ap (λ b. stored g.world b (put_part (whole_at g.world b) l.path v)) f.base
        ∙ ap (λ u. put_world x g line rest y f.site f.among f.number f.there own.value own.slot (put_part u l.path v)) (ap held own.slot)

  module _ (f : FromWaits x.table sites g.world l a t) where
    abbrev waits_new : Value
    waits_new = put_part f.value l.path v

    waits_is : store g.world l v ≡ put_waiting x g line rest y f.from.site f.from.among f.from.node f.from.there waits_new
    waits_is = ap (λ b. stored g.world b (put_part (whole_at g.world b) l.path v)) f.from.base
        ∙ ap (λ u. put_waiting x g line rest y f.from.site f.from.among f.from.node f.from.there (put_part u l.path v)) (ap awaited f.has)

    waits_then : temporary_at (store g.world l v) f.from.site.level f.from.node ≡ Some (Holds waits_new)
    waits_then =
        ap (λ w. temporary_at w f.from.site.level f.from.node) waits_is
        ∙ waiting_new x g line rest y f.from.site f.from.among f.from.node f.from.there waits_new f.value f.has

  frames_stay : FromBlock g.ground l a t → stack_of (store g.world l v) ≡ stack_of g.world
  frames_stay f = ap (λ b. stack_of (stored g.world b (put_part (whole_at g.world b) l.path v))) f.base

  -- ---- places, and what waits

  pub filled_still : Owns → (s : Site) (n : ℕ) → AmongSites s sites → IsThere s (of_place n) → Filled g.world s.level n → Filled (store g.world l v) s.level n
  filled_still (inl f) s n among there filled =
      subst (λ w. Filled w s.level n) (sym (place_is f))
      ((put_worlds x g line rest y f.site f.among f.number f.there (own f).value (own f).slot (new f)).more s n among there filled)
  filled_still (inr (inl f)) s n among there filled = (
    filled.0,
    ap (λ frames. slot_of (frame_in (slice_get frames s.level)) n) (frames_of (store g.world l v) g.world (frames_stay f)) ∙ filled.1,
  )
  filled_still (inr (inr f)) s n among there filled =
      subst (λ w. Filled w s.level n) (sym (waits_is f))
      ((waiting_worlds x g line rest y f.from.site f.from.among f.from.node f.from.there (waits_new f)).more s n among there filled)

  pub places_still : (f : Owns) (k : Location) (b : ℕ) (u : Shape) → FromPlace x.table sites g.world k b u
      → FromPlace x.table sites (store g.world l v) k b u
  places_still f k b u p = record {
    site = p.site;
    among = p.among;
    number = p.number;
    base = p.base;
    filled = filled_still f p.site p.number p.among p.there p.filled;
    there = p.there;
    home = p.home;
    offset = p.offset;
    path = p.path;
    address = p.address;
  }

  pub waits_still : (f : Owns) (k : Location) (b : ℕ) (u : Shape) → FromWaits x.table sites g.world k b u
      → FromWaits x.table sites (store g.world l v) k b u
  waits_still f k b u p = by f
    where
      same : temporary_at (store g.world l v) p.from.site.level p.from.node ≡ temporary_at g.world p.from.site.level p.from.node
          → FromWaits x.table sites (store g.world l v) k b u
      same e = record { from = p.from; value = p.value; has = e ∙ p.has }

      away : (h : FromWaits x.table sites g.world l a t)
          → ((p.from.site.level ≡ h.from.site.level) × (of_waiting p.from.node ≡ of_waiting h.from.node))
          ⊎ ((p.from.site.level ≢ h.from.site.level) ⊎ (of_waiting p.from.node ≢ of_waiting h.from.node))
          → FromWaits x.table sites (store g.world l v) k b u
      away h (inr ne) =
          same (ap (λ w. temporary_at w p.from.site.level p.from.node) (waits_is h)
          ∙ (waiting_worlds x g line rest y h.from.site h.from.among h.from.node h.from.there (waits_new h)).waits p.from.site p.from.node p.from.among ne)
      away h (inl e) = record {
        from = p.from;
        value = waits_new h;
        has = ap (λ n. temporary_at (store g.world l v) n p.from.node) e.0
            ∙ ap (temporary_at (store g.world l v) h.from.site.level) (same_numbers (of_waiting p.from.node) (of_waiting h.from.node) e.1)
            ∙ waits_then h;
      }

      by : Owns → FromWaits x.table sites (store g.world l v) k b u
      by (inl f) =
          same (ap (λ w. temporary_at w p.from.site.level p.from.node) (place_is f)
          ∙ (put_worlds x g line rest y f.site f.among f.number f.there (own f).value (own f).slot (new f)).waits p.from.site p.from.node p.from.among
          (inr (λ e. place_no_waiting f.number p.from.node (sym e))))
      by (inr (inl f)) = same (ap (λ frames. temporary_in (frame_in (slice_get frames p.from.site.level)).temporaries p.from.node)
          (frames_of (store g.world l v) g.world (frames_stay f)))
      by (inr (inr h)) =
          away h (away_cases x.table x.blocks x.small sites y.linked h.from.site (of_waiting h.from.node) p.from.site (of_waiting p.from.node))
