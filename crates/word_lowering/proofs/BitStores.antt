-- A value of any shape is put where a location leads, by its bits: all is good behind that, and other locations lead where they did.
use Rattle.nim_meaning.specs.Values.{Value, Location, put_part, bytes}
use Rattle.word_lowering.proofs.Scenes.{FromOwned, Ground, is_fixed}
use Rattle.word_lowering.proofs.RowGood.{IsLeftHere, good_put_at}
use Rattle.word_lowering.proofs.Stores.{good_written, ground_then, put_there as numbers_there, leads_still as numbers_lead}
use Rattle.word_lowering.proofs.OrdinalRuns.{AllSame}
use Rattle.word_lowering.proofs.Sites.{Site}
use Rattle.word_lowering.proofs.StillLed.{places_still, waits_still}
use Rattle.word_lowering.proofs.Lines.{Basis, IsGood, all_sites, changed_later, starts}
use Rattle.flat_code.specs.declared.block.BlockLine.{BlockLine}
use Rattle.word_lowering.proofs.Related.{Both, StandAt, body_of}
use Rattle.word_code.proofs.ForCallers.{Changed, changed_rewritten}
use Rattle.word_lowering.proofs.GoodHomes.{HomeOf, good_homes, homes_apart}
use Rattle.word_lowering.proofs.InMemory.{IsAt}
use Rattle.word_lowering.proofs.BaseValues.{IsOwn}
use Rattle.word_code.specs.RoutineTable.{IsRewritten}
use Rattle.std.proofs.Common.{List, false, inl, inr, refl, subst, sym, true, ℕ, ◌∙◌, ◌≡◌, ◌⊎◌}
use Rattle.word_lowering.proofs.BlockWrites.{MayPut, Put, put_at}
use Rattle.word_code.specs.Memory.{Memory}
use Rattle.word_lowering.proofs.Gets.{SameTemps}
use Rattle.flat_code.specs.Shapes.{Shape, has_shape}
use Rattle.word_lowering.proofs.Blocks.{Stored}
use Rattle.flat_code.specs.Scene.{Temps}
use Rattle.word_code.specs.Words.{Vars}
use Rattle.word_lowering.proofs.ShapeFacts.{bytes_is, of_numbers, shape_bytes}
use Rattle.std.proofs.lemmas.Bool.{cases_Bool}
use Rattle.nim_meaning.specs.State.{is_there, store, whole_at}
use Rattle.word_lowering.proofs.GoodRows.{later_ground_of}
use Rattle.word_lowering.proofs.BlockPaths.{leads_later}
use Rattle.word_lowering.proofs.NumbersStored.{numbers_at}
use Rattle.word_lowering.proofs.GoodLeads.{owned_to}
use Rattle.word_lowering.proofs.HeapWanted.{stored_input}
use Rattle.word_lowering.proofs.StoredLater.{CarriesSmall, stored_small}

module _ (x : Basis) (g : Both) (line : BlockLine) (rest : List BlockLine) (y : IsGood x (starts g line rest)) (l : Location) (a : ℕ) (t : Shape)
    (live : is_there g.world l ≡ true) (v : Value) (shaped : has_shape v t ≡ true) (m : Memory) (ch : Changed g.memory m a (shape_bytes t))
    (stands : Stored (is_fixed g.ground) g.ground.blocks m a t v) (f : FromOwned x.table (all_sites x g line rest y) g.ground g.world l a t) where
  abbrev here : Both
  here = starts g line rest

  abbrev sites : List Site
  sites = all_sites x g line rest y

  pub record IsPutThere : Type 0 where
    pub ground : Ground
    pub good : (lines : List BlockLine) → StandAt x.table x.blocks (body_of g) lines → (temps : Temps) → SameTemps x g line rest y temps
        → (vars words : Vars) (awaits : ℕ) → AllSame g.call.vars vars
        → IsGood x (changed_later g lines temps vars m words awaits (store g.world l v) ground g.input)
    pub leads : (k : Location) (b : ℕ) (u : Shape) → FromOwned x.table (all_sites x g line rest y) g.ground g.world k b u
        → FromOwned x.table (all_sites x g line rest y) ground (store g.world l v) k b u
    -- what stood anywhere is carried
    pub kept : (other : Memory) (from to : ℕ) (s : Shape) (u : Value) → CarriesSmall g.memory other from to (shape_bytes s)
        → Stored (is_fixed g.ground) g.ground.blocks g.memory from s u → Stored (is_fixed ground) ground.blocks other to s u

  -- ---- of numbers

  module _ (numbers : of_numbers t ≡ true) where
    size : bytes v ≡ shape_bytes t
    size = bytes_is v t numbers shaped

    changed_bytes : Changed g.memory m a (bytes v)
    changed_bytes = subst (Changed g.memory m a) (sym size) ch

    is_at : IsAt m a v
    is_at = numbers_at (is_fixed g.ground) g.ground.blocks m a t v numbers shaped stands

    numbers_put : IsPutThere
    numbers_put = record {
      ground = ground_then x g line rest y l a t numbers live v shaped m changed_bytes is_at f;
      good = λ lines stand temps same vars words awaits kept.
          good_written x g line rest y l a t numbers live v shaped m changed_bytes is_at f lines stand temps same vars words awaits kept;
      leads = λ k b u h. numbers_lead x g line rest y l a t numbers live v shaped m changed_bytes is_at f k b u h;
      kept = λ other from to s u carried there.
          stored_small (is_fixed g.ground) g.ground.blocks (numbers_there x g line rest y l a t numbers live v shaped m changed_bytes is_at f).after
          (numbers_there x g line rest y l a t numbers live v shaped m changed_bytes is_at f).ahead g.memory other from to s u carried there;
    }

  -- ---- of what has blocks

  module _ (blocks : of_numbers t ≡ false) where
    rewritten : IsRewritten g.memory m a (shape_bytes t)
    rewritten = changed_rewritten g.memory m a (shape_bytes t) ch

    may_put : (h : FromOwned x.table (all_sites x g line rest y) g.ground g.world l a t)
        → MayPut (is_fixed g.ground) (HomeOf x here) (homes_apart x here y) g.ground.blocks g.world g.memory (good_homes x here y) m ch.sized l a t v
        rewritten stands (owned_to x here y l a t h)
    may_put (inl h) = subst IsOwn (sym h.base) tt
    may_put (inr (inl h)) = tt
    may_put (inr (inr h)) = subst IsOwn (sym h.from.base) tt

    put_it : Put (is_fixed g.ground) (HomeOf x here) (homes_apart x here y) g.ground.blocks g.world g.memory (good_homes x here y) l v m
    put_it =
        put_at (is_fixed g.ground) (HomeOf x here) (homes_apart x here y) g.ground.blocks g.world g.memory (good_homes x here y) m ch.sized l a t v rewritten
        stands (owned_to x here y l a t f) (may_put f) live

    left : IsLeftHere x g line rest y (store g.world l v) m a (shape_bytes t)
    left = record {
      later = put_it.after;
      ahead = put_it.ahead;
      holds = put_it.holds;
      rest = record { sizes = ch.sizes; beside = λ b k own heap put. ch.beside b k put };
    }

    abbrev ground_now : Ground
    ground_now = later_ground_of x g line rest y put_it.after

    input_stays : (store g.world l v).input ≡ g.input
    input_stays = stored_input g.world l.base (put_part (whole_at g.world l.base) l.path v) ∙ y.input

    leads_on : (k : Location) (b : ℕ) (u : Shape) → FromOwned x.table sites g.ground g.world k b u →
        FromOwned x.table sites ground_now (store g.world l v) k b u
    leads_on k b u (inl p) = inl (places_still x g line rest y l a t v f k b u p)
    leads_on k b u (inr (inl p)) = inr (inl (record {
      block = p.block;
      base = p.base;
      leads = leads_later g.ground.blocks put_it.after put_it.ahead p.block k.path b u p.leads;
      near = p.near;
    }))
    leads_on k b u (inr (inr p)) = inr (inr (waits_still x g line rest y l a t v f k b u p))

    blocks_put : IsPutThere
    unfolding put_it left
    blocks_put = record {
      ground = ground_now;
      good = λ lines stand temps same vars words awaits kept.
          subst (λ input. IsGood x (changed_later g lines temps vars m words awaits (store g.world l v) ground_now input)) input_stays
          (good_put_at x g line rest y l a t blocks live v (store g.world l v) m left refl lines stand f temps same vars words awaits kept);
      leads = leads_on;
      kept = λ other from to s u carried there.
          stored_small (is_fixed g.ground) g.ground.blocks put_it.after put_it.ahead g.memory other from to s u carried there;
    }

  pub bits_put : IsPutThere
  bits_put = by (cases_Bool (of_numbers t))
    where
      by : (of_numbers t ≡ true) ⊎ (of_numbers t ≡ false) → IsPutThere
      by (inl numbers) = numbers_put numbers
      by (inr blocks) = blocks_put blocks
