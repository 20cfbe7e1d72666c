-- The routines of the heap that hooks call: each leaves world and memory as the meaning's deed does.
use Rattle.std.proofs.Common.{◌≡◌, ◌⊎◌, inl, inr, ℕ, zero, suc, ◌*◌, ◌<◌, ◌≤◌, Bool, true, false, List, [], ◌∷◌, length, Option, Some, None}
use Rattle.std.proofs.Common.{refl, sym, ap, subst, ◌∙◌, arith, mul-le-mul, le_refl}
use Rattle.std.specs.Prelude.{slice_get, ◌==◌}
use Rattle.std.proofs.lemmas.Bool.{false≢true, cond-false, cond-true, eq-eqb, ne_eqb, cases_eq}
use Rattle.nim_meaning.specs.Values.{Value, Number, Parts, Handle, Fixed, Ref, Resource, Gone, Vacant, Values, Nil, More, parts_of, count, first_of, Base}
use Rattle.nim_meaning.specs.Values.{Standing, Waiting}
use Rattle.nim_meaning.specs.Values.{InBlock, InHand, InException, Made, block_of, is_handle}
use Rattle.nim_meaning.specs.Heap.{Block, Elements, block_at, with_contents, at_class, one_less}
use Rattle.nim_meaning.specs.State.{World, frame_in, slot_of, temporary_in, contents_value, object_in, is_live, is_so_in, has_item, elements_of}
use Rattle.nim_meaning.specs.Deeds.{Frees, Refills, does, freed, perform, unless_gone, frees, refills}
use Rattle.flat_code.specs.Shapes.{Shape, elements}
use Rattle.rv32_isa.specs.Image.{heap_at}
use Rattle.rv32_isa.specs.Machine.{Lives}
use Rattle.word_code.specs.declared.word.WordInstr.{WordInstr}
use Rattle.word_code.specs.declared.word.WordProc.{WordProc}
use Rattle.word_code.specs.Memory.{Memory, as_state, own_data_at}
use Rattle.word_code.specs.RoutineTable.{Beside}
use Rattle.word_code.specs.Routines.{IsCalling, ComesBack}
use Rattle.word_code.specs.Words.{WordState, Fresh}
use Rattle.word_code.proofs.ForCallers.{Sized, sizes_same}
use Rattle.heap_memory.specs.declared.numbers.TheConstants.{RELEASE, HEAP_DATA, HEAP_WORD_BYTES}
use Rattle.heap_memory.specs.AppendRoutine.{Releasing, releases}
use Rattle.heap_memory.specs.HandleRoutines.{IsBesideData}
use Rattle.heap_memory.specs.HeapRoutines.{IsBesideHeap, IsKeptThere}
use Rattle.heap_memory.specs.HeapRuntime.{HeapRoutineName, Releases as ReleaseName, heap_routine}
use Rattle.heap_memory.specs.HeapState.{IsHeap}
use Rattle.heap_memory.proofs.ForCallers.{same_stands}
use Rattle.hook_code.specs.Surroundings.{Hand as HookHand, IsFull}
use Rattle.hook_code.specs.Promises.{IsBack, Comes, AnyWord, Releases, Forgets, Stays, release_most}
use Rattle.word_lowering.proofs.SequenceOperands.{first_stored}
use Rattle.word_lowering.proofs.ShapeFacts.{shape_bytes}
use Rattle.word_lowering.proofs.BaseValues.{HoldsAt, in_frame}
use Rattle.word_lowering.proofs.Blocks.{Inside, Bytes, Each, Blocks, AreLater, HasContents, IsBlockThere, IfBlockThere, HasHeap, Holds_for}
use Rattle.word_lowering.proofs.BlocksBorn.{later_same, later_gone, with_gone}
use Rattle.word_lowering.proofs.BlockHomes.{home_bytes, IsChangedInside, inside_carried, outside_then, block_read}
use Rattle.word_lowering.proofs.BlockPaths.{HasElements, elements_in}
use Rattle.word_lowering.proofs.HandHomes.{Hand, AllHomes, all_apart}
use Rattle.word_lowering.proofs.HeapChanged.{TwoMemories}
use Rattle.word_lowering.proofs.HeapKept.{two_memories}
use Rattle.word_lowering.proofs.HeapsThen.{heap_still, heap_gone, heap_filled, later_filled, with_filled}
use Rattle.word_lowering.proofs.HookHomes.{HookHomes, IsHere, sized}
use Rattle.word_lowering.proofs.HookLeads.{AreHandle, own_handle}
use Rattle.word_lowering.proofs.HookSteps.{seq_shape}
use Rattle.word_lowering.proofs.HookSurroundings.{shape, shaped, surroundings}
use Rattle.word_lowering.proofs.HookWorlds.{like_beside, memory_next}
use Rattle.word_lowering.proofs.StoredLater.{stored_kept, all_kept}

-- what stands at a base stands there where frames and values under way are the same
pub holds_beside : (w other : World) → other.frames ≡ w.frames → other.hand ≡ w.hand → (b : Base) (v : Value) → HoldsAt w b v → HoldsAt other b v
holds_beside w other frames hand (Standing level n) v h = (
  in_frame w other level n frames h.0,
  ap (λ fs. slot_of (frame_in (slice_get fs level)) n) frames ∙ h.1,
)
holds_beside w other frames hand (Waiting level node) v h = (
  (h.0.0, ap (λ fs. slice_get fs level) frames ∙ h.0.1),
  ap (λ fs. temporary_in (frame_in (slice_get fs level)).temporaries node) frames ∙ h.1,
)
holds_beside w other frames hand (InHand i) v h = ap (λ vs. slice_get vs i) hand ∙ h
holds_beside w other frames hand (Made u) v h = h
holds_beside w other frames hand (InBlock k) v h = absurd h
holds_beside w other frames hand (InException i) v h = absurd h

-- a block that was born and wasn't given back
live_so : (o : Option (Option Block)) → is_so_in (λ contents. true) o ≡ true → is_so_in (has_item []) o ≡ true
live_so None so = refl
live_so (Some None) so = so
live_so (Some (Some b)) so = refl

-- behind a routine that changes the heap and its data alone
pub beside_data : (m other : Memory) → IsBesideHeap own_data_at m other → IsBesideData own_data_at m other
beside_data m other x = record { sizes = x.sizes; beside = λ b n own heap. x.beside b n (fewer b n own) heap }
  where
    fewer : (b n : ℕ) → Beside b n own_data_at HEAP_DATA → Beside b n own_data_at HEAP_WORD_BYTES
    fewer b n (inl h) = inl h
    fewer b n (inr h) = inr (omega (arith, h))

module _ (z : HookHomes) where
  module _ (low top : ℕ) (hand : Hand) (d : Blocks) (w : World) (m : Memory) (x : IsHere z low top hand d w m) where
    -- blocks change, and all else stays
    module _ (after : Blocks) (ahead : AreLater d after) (other : Memory) (rest : IsBesideData own_data_at m other) (w' : World) (frames : w'.frames ≡ w.frames)
        (under_way : w'.hand ≡ w.hand) (input : w'.input ≡ w.input) (has : HasHeap z.StandsFixed after w'.heap other) where
      inside : IsChangedInside m other
      inside = record { long = rest.sizes.heap; beside = rest.beside }

      pub sized_inside : Sized other
      sized_inside = z.law.regions (as_state m) (as_state other) (sized z low top hand d w m x) rest.sizes

      pub inside_here : IsHere z low top hand after w' other
      inside_here = record {
        here = record {
          up = x.here.up;
          holds = record {
            sized = sized_inside;
            heap = has;
            homes = λ h i.
                let at = x.here.holds.homes h i in
                record {
                  value = at.value;
                  holds = holds_beside w w' frames under_way h.base at.value at.holds;
                  stored = stored_kept z.StandsFixed d after ahead m other h.at h.at h.shape at.value
                      (inside_carried m other h.at (home_bytes h) inside at.elsewhere) at.stored;
                  elsewhere = outside_then m other h.at (home_bytes h) rest.sizes.heap at.elsewhere;
                };
          };
          long = ap length under_way ∙ x.here.long;
          fits = x.here.fits;
        };
        low_whole = x.low_whole;
        top_whole = x.top_whole;
        hand_whole = x.hand_whole;
        ends = (let e = x.ends in let k = rest.sizes.stack in omega (arith, e, k));
        like = like_beside z.Homes z.world w w' frames input x.like;
        same = memory_next z.Homes z.start z.memory m other x.same rest.sizes.statics rest.sizes.heap
            (λ b n o. rest.beside b n o.own (subst (λ k. Beside b n heap_at k) (sym x.same.heap) o.heap));
        bytes = rest.sizes.bytes x.bytes;
      }

    -- ---- a block that stands

    pub record IsLiveBlock (k : ℕ) : Type 0 where
      pub block : Block
      pub there : block_at w.heap k ≡ Some block
      pub is : IsBlockThere z.StandsFixed d m k block

    pub live_block : (k : ℕ) → k < d.born → is_live w k ≡ true → IsLiveBlock k
    live_block k born live =
        let r = block_read z.StandsFixed (AllHomes z.StandsFixed z.Homes z.apart z.start z.under z.first z.others hand)
        (all_apart z.StandsFixed z.Homes z.apart z.start z.under z.first z.others hand low x.here.up) d w m x.here.holds k [] born
        (live_so (slice_get w.heap.blocks k) live) in
        record {
          block = r.block;
          there = r.there;
          is = subst (λ o. IfBlockThere z.StandsFixed d m k o) r.there (x.here.holds.heap.blocks k);
        }

    pub two_there : (other : Memory) → IsBesideData own_data_at m other → TwoMemories z.StandsFixed d w.heap m other
    two_there other rest =
        two_memories z.StandsFixed d w.heap m other (sized z low top hand d w m x)
        (z.law.regions (as_state m) (as_state other) (sized z low top hand d w m x) rest.sizes) x.here.holds.heap rest.sizes.heap

  -- ---- a block is given back

  module _ (live : Lives) (procs : List WordProc) (fresh : Fresh)
      (kept : (name : HeapRoutineName) → IsKeptThere live procs (heap_routine own_data_at name)) where
    -- one that a routine gave back
    module _ (low top : ℕ) (h : HookHand) (d : Blocks) (w : World) (s : ℕ × WordState) (to : ℕ) (rest : List WordInstr)
        (x : IsHere z low top (shaped z h) d w s.1.memory) (u : Releasing)
        (back : ComesBack live procs (releases own_data_at) u s.1 to rest) (after : Blocks) (ahead : AreLater d after) (w' : World)
        (frames : w'.frames ≡ w.frames) (under_way : w'.hand ≡ w.hand) (input : w'.input ≡ w.input)
        (has : HasHeap z.StandsFixed after w'.heap back.memory) where
      is_back : IsBack z.table (surroundings z) live procs fresh low top h d (λ e word. Unit {0}) s to rest w' release_most
      is_back = record {
        memory = back.memory;
        word = back.word;
        after = after;
        ahead = ahead;
        here = inside_here low top (shaped z h) d w s.1.memory x after ahead back.memory (beside_data s.1.memory back.memory back.leaves) w' frames under_way
            input has;
        gives = tt;
        lines = back.lines;
        few = (let f = back.few in omega (arith, f));
        behind = (back.steps fresh s.0).0;
        runs = (back.steps fresh s.0).1;
      }

    module _ (low top : ℕ) (h : HookHand) (d : Blocks) (w : World) (s : ℕ × WordState) (to : ℕ) (rest : List WordInstr) (p : ℕ)
        (calling : IsCalling RELEASE (p ∷ []) to rest s.1) (x : IsHere z low top (shaped z h) d w s.1.memory) where
      abbrev Back : World → Type 0
      Back w' = IsBack z.table (surroundings z) live procs fresh low top h d (λ e word. Unit {0}) s to rest w' release_most

      -- of nothing
      none_back : p ≡ 0 → Back w
      none_back none =
          let u : Releasing = record { present = None; classes = w.heap.classes; stands = d.stands } in
          let back : ComesBack live procs (releases own_data_at) u s.1 to rest
          = kept ReleaseName u s.1 to rest (subst (λ q. IsCalling RELEASE (q ∷ []) to rest s.1) none calling)
          (sized z low top (shaped z h) d w s.1.memory x) (record { heap = x.here.holds.heap.kept; present = refl }) in
          is_back low top h d w s to rest x u back d (later_same d) w refl refl refl
          (heap_still z.StandsFixed d w.heap s.1.memory back.memory
          (two_there low top (shaped z h) d w s.1.memory x back.memory (beside_data s.1.memory back.memory back.leaves)) back.gives)

      -- of one that stands
      one_back : (k : ℕ) → (b : IsLiveBlock low top (shaped z h) d w s.1.memory x k) → p ≡ b.is.standing.place
          → Back (freed w k (block_at w.heap k))
      one_back k b place =
          let u : Releasing = record { present = Some (record { identity = k; block = b.is.standing }); classes = w.heap.classes; stands = d.stands } in
          let back : ComesBack live procs (releases own_data_at) u s.1 to rest
          = kept ReleaseName u s.1 to rest (subst (λ q. IsCalling RELEASE (q ∷ []) to rest s.1) place calling)
          (sized z low top (shaped z h) d w s.1.memory x) (record {
            heap = x.here.holds.heap.kept;
            present = (b.is.stands, b.is.kind, b.is.word, omega arith, tt);
          }) in
          subst (λ o. Back (freed w k o)) (sym b.there)
          (is_back low top h d w s to rest x u back (with_gone d k) (later_gone d k) (freed w k (Some b.block)) refl refl refl
          (heap_gone z.StandsFixed d w.heap s.1.memory back.memory
          (two_there low top (shaped z h) d w s.1.memory x back.memory (beside_data s.1.memory back.memory back.leaves)) k b.block b.there
          (subst (λ c. IsHeap own_data_at (at_class one_less c w.heap.classes) (with_gone d k).stands back.memory) b.is.class back.gives)))

    pub releases_it : Releases z.table (surroundings z) live procs fresh
    releases_it low top h d w s to rest v ty n p called full own are = by v full own (own_handle z.StandsFixed d (shape z ty) v n p are).are
      where
        by : (v : Value) → IsFull v → is_handle v ≡ true → AreHandle z.StandsFixed d (shape z ty) v n p
            → Comes z.table (surroundings z) live procs fresh low top h d (AnyWord z.table (surroundings z) live procs fresh) s to rest (λ n. release_most)
            (perform (frees (block_of v)) w)
        by (Handle k None) full own h' = (refl, none_back low top h d w s to rest p called.calling called.here h'.place)
        by (Handle k (Some j)) full own h' = by_live (is_live w j) refl
          where
            by_live : (b : Bool) → is_live w j ≡ b
                → Comes z.table (surroundings z) live procs fresh low top h d (AnyWord z.table (surroundings z) live procs fresh) s to rest
                (λ n. release_most) (perform (unless_gone b (does (Frees j))) w)
            by_live false e = tt
            by_live true e =
                let b = live_block low top (shaped z h) d w s.1.memory called.here j h'.place.0 e in
                (refl, one_back low top h d w s to rest p called.calling called.here j b (h'.place.2 b.is.standing b.is.stands))
        by (Number k) full own h' = absurd (false≢true own)
        by (Parts all) full own h' = absurd (false≢true own)
        by (Fixed text) full own h' = absurd (false≢true own)
        by (Ref object) full own h' = absurd (false≢true own)
        by (Resource all identity) full own h' = absurd (false≢true own)
        by (Gone u final) full own h' = absurd (false≢true own)
        by Vacant full own h' = absurd full

    -- ---- elements at the end of a sequence are nothing any more

    module _ (low top : ℕ) (h : HookHand) (d : Blocks) (w : World) (m : Memory) (x : IsHere z low top (shaped z h) d w m) (k i : ℕ) (s : Shape)
        (b : IsLiveBlock low top (shaped z h) d w m x i) (holds : Holds_for (elements s) (d.inside i)) where
      of_shape : d.inside i ≡ Each s
      of_shape = by (d.inside i) holds
        where
          by : (o : Inside) → Holds_for (elements s) o → o ≡ Each s
          by Bytes is = absurd is
          by (Each t) is = ap Each is

      all : HasElements z.StandsFixed d m b.is.standing s b.block.contents
      all = elements_in z.StandsFixed d m b.is.standing s b.block.contents
          (subst (λ q. HasContents z.StandsFixed d m b.is.standing q b.block.contents) of_shape b.is.holds)

      abbrev fewer : Values
      fewer = first_of k all.all

      same_blocks : TwoMemories z.StandsFixed d w.heap m m
      same_blocks = two_memories z.StandsFixed d w.heap m m (sized z low top (shaped z h) d w m x) (sized z low top (shaped z h) d w m x) x.here.holds.heap refl

      abbrev shorter : Blocks
      shorter = with_filled d i b.is.standing

      stands_same : (j : ℕ) → shorter.stands j ≡ d.stands j
      stands_same j = by (cases_eq j i)
        where
          by : (j ≡ i) ⊎ (j ≡ i → ⊥) → shorter.stands j ≡ d.stands j
          by (inl e) = cond-true (j == i) (Some b.is.standing) (d.stands j) (eq-eqb j i e) ∙ sym b.is.stands ∙ sym (ap d.stands e)
          by (inr ne) = cond-false (j == i) (Some b.is.standing) (d.stands j) (ne_eqb j i ne)

      later : AreLater d shorter
      later = later_filled z.StandsFixed d w.heap m m same_blocks i b.block b.there b.is.standing b.is refl refl refl refl (Elements fewer)

      count_less : (k : ℕ) (vs : Values) → count (first_of k vs) ≤ count vs
      count_less zero vs = omega arith
      count_less (suc k) Nil = omega arith
      count_less (suc k) (More v vs) = let e = count_less k vs in omega (arith, e)

      shorter_heap : HasHeap z.StandsFixed shorter (with_contents w.heap i (Elements fewer)) m
      shorter_heap =
          let fits = all.fits in
          let few : count fewer * shape_bytes s ≤ count all.all * shape_bytes s = mul-le-mul (count_less k all.all) (le_refl (shape_bytes s)) in
          heap_filled z.StandsFixed d w.heap m m same_blocks i b.block b.there b.is.standing b.is refl refl refl refl (Elements fewer)
          (same_stands own_data_at w.heap.classes d.stands shorter.stands m stands_same x.here.holds.heap.kept)
          (subst (λ q. HasContents z.StandsFixed shorter m b.is.standing q (Elements fewer)) (sym of_shape) (
            first_stored z.StandsFixed shorter m s k b.is.standing.place all.all
                (all_kept z.StandsFixed d shorter later m m b.is.standing.place b.is.standing.place s all.all (count all.all) refl
                (λ o v within whole reads. reads)
                all.stored),
            omega (arith, fits, few),
          ))

      abbrev world_then : World
      world_then = record w { heap = with_contents w.heap i (Elements fewer) }

      forgets_one : IsHere z low top (shaped z h) shorter world_then m
      forgets_one = inside_here low top (shaped z h) d w m x shorter later m (record { sizes = sizes_same m; beside = λ c n own heap. refl }) world_then
          refl refl refl shorter_heap

      elements_are : (n : ℕ) → elements_of w (Handle n (Some i)) ≡ all.all
      elements_are n = ap (λ o. parts_of (contents_value o)) b.there ∙ ap (λ c. parts_of (object_in c)) all.is

    pub forgets_it : Forgets z.table (surroundings z) live procs fresh
    forgets_it low top h d w m v ty of n p k x typed full are =
        by v full (subst (λ s. AreHandle z.StandsFixed d s v n p) (seq_shape z.table z.is_table z.have ty of typed)
        (own_handle z.StandsFixed d (shape z ty) v n p are).are)
      where
        by : (v : Value) → IsFull v → AreHandle z.StandsFixed d (elements (shape z of)) v n p
            → Stays z.table (surroundings z) live procs fresh low top h d m (perform (refills (block_of v) (Elements (first_of k (elements_of w v)))) w)
        by (Handle j None) full h' = (refl, (d, later_same d, x))
        by (Handle j (Some i)) full h' = by_live (is_live w i) refl
          where
            by_live : (b : Bool) → is_live w i ≡ b → Stays z.table (surroundings z) live procs fresh low top h d m
                (perform (unless_gone b (does (Refills i (Elements (first_of k (elements_of w (Handle j (Some i)))))))) w)
            by_live false e = tt
            by_live true e =
                let b = live_block low top (shaped z h) d w m x i h'.place.0 e in
                let holds = h'.place.1 in (
                  refl,
                  (
                    with_filled d i b.is.standing,
                    later low top h d w m x k i (shape z of) b holds,
                    subst (λ vs. IsHere z low top (shaped z h) (with_filled d i b.is.standing)
                        (record w { heap = with_contents w.heap i (Elements (first_of k vs)) })
                        m) (sym (elements_are low top h d w m x k i (shape z of) b holds j)) (forgets_one low top h d w m x k i (shape z of) b holds),
                  ),
                )
        by Vacant full h' = absurd full
        by v full h' = absurd h'
