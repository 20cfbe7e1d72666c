-- A new text or sequence comes to where a location leads, by a routine of the heap: the meaning takes a block first, and puts the handle then.
use Rattle.std.proofs.Common.{◌≡◌, inl, inr, ℕ, zero, suc, ◌+◌, ◌<◌, true, List, length, Option}
use Rattle.std.proofs.Common.{refl, sym, ap, subst, ◌∙◌, arith}
use Rattle.std.specs.Prelude.{slice_get}
use Rattle.nim_meaning.specs.Heap.{Contents, Heap}
use Rattle.nim_meaning.specs.Values.{Value, Handle, Base, Standing, Waiting, InBlock, InHand, InException, Made, Location}
use Rattle.nim_meaning.specs.State.{World, store, is_there, leads_from, is_so_in, has_item}
use Rattle.flat_code.specs.Shapes.{Shape, block, elements}
use Rattle.word_code.specs.Memory.{Memory, may_put}
use Rattle.word_code.specs.RoutineTable.{IsRewritten}
use Rattle.heap_memory.specs.HandleRoutines.{MayHave}
use Rattle.rv32_isa.specs.declared.micro_op.Size.TheVariants.{Word}
use Rattle.hook_code.specs.Surroundings.{Hand as HookHand}
use Rattle.word_lowering.proofs.BaseValues.{HoldsAt}
use Rattle.word_lowering.proofs.Blocks.{Blocks, AreLater, IsHandle as StoresHandle, Stored, HasHeap}
use Rattle.word_lowering.proofs.BlocksBorn.{later_more}
use Rattle.word_lowering.proofs.BlockLists.{get_before}
use Rattle.word_lowering.proofs.BlocksMade.{heap_fresh, block_fresh}
use Rattle.word_lowering.proofs.HandlesPut.{LeavesHandle}
use Rattle.word_lowering.proofs.HookHomes.{HookHomes, IsHere, Led, led_open}
use Rattle.word_lowering.proofs.HookLeads.{leads_later}
use Rattle.word_lowering.proofs.HookRoutines.{inside_here}
use Rattle.word_lowering.proofs.HookSurroundings.{shape, shaped, IsLed, at_word}
use Rattle.word_lowering.proofs.HookWords.{IsBlocky, blocky_bytes, IsThen, is_put}

-- the handle of a text or a sequence, as it stands there
handle_there : (StandsFixed : (place : ℕ) → List ℕ → Type 0) (d : Blocks) (m : Memory) (a : ℕ) (t : Shape) (n : ℕ) (k : Option ℕ) → IsBlocky t
    → StoresHandle d m a t n k → Stored StandsFixed d m a t (Handle n k)
handle_there StandsFixed d m a block n k is h = h
handle_there StandsFixed d m a (elements s) n k is h = h
handle_there StandsFixed d m a t n k is h = absurd is

-- what isn't in a block is there
base_there : (w other : World) (b : Base) (path : List ℕ) (v : Value) → HoldsAt w b v → leads_from other b path ≡ true
base_there w other (Standing level n) path v h = refl
base_there w other (Waiting level node) path v h = refl
base_there w other (InHand i) path v h = refl
base_there w other (Made u) path v h = refl
base_there w other (InBlock k) path v h = absurd h
base_there w other (InException i) path v h = absurd h

fresh_before : (heap : Heap) (bytes : ℕ) (c : Contents) (path : List ℕ) (k : ℕ) → k < length heap.blocks
    → is_so_in (has_item path) (slice_get (heap_fresh heap bytes c).blocks k) ≡ is_so_in (has_item path) (slice_get heap.blocks k)
fresh_before heap zero c path k less = refl
fresh_before heap (suc n) c path k less = ap (is_so_in (has_item path)) (get_before heap.blocks _ k less)

module _ (z : HookHomes) (low top : ℕ) (h : HookHand) (d : Blocks) (w : World) (m : Memory) (x : IsHere z low top (shaped z h) d w m) (l : Location)
    (a ty : ℕ) (leads : IsLed z true h d l a ty) (blocky : IsBlocky (shape z ty)) (n bytes : ℕ) (c : Contents) (w1 : World)
    (heap : w1.heap ≡ heap_fresh w.heap bytes c) (frames : w1.frames ≡ w.frames) (under_way : w1.hand ≡ w.hand) (input : w1.input ≡ w.input)
    (there : is_there w1 l ≡ true) where
  -- it was there before the block was taken
  pub there_before : is_there w l ≡ true
  there_before = by leads.led
    where
      by : Led z low top (shaped z h) d w m x true l leads.at (shape z ty) → is_there w l ≡ true
      by (inl f) =
          let at = x.here.holds.homes f.home f.among in
          subst (λ b. leads_from w b l.path ≡ true) (sym f.base) (base_there w w f.home.base l.path at.value at.holds)
      by (inr (inr f)) = subst (λ b. leads_from w b l.path ≡ true) (sym f.base) refl
      by (inr (inl f)) =
          let born = f.leads.born in let all = x.here.holds.heap.born in
          subst (λ b. leads_from w b l.path ≡ true) (sym f.base)
          (sym (fresh_before w.heap bytes c l.path f.block (omega (arith, born, all)))
          ∙ ap (λ (q : Heap). is_so_in (has_item l.path) (slice_get q.blocks f.block)) (sym heap)
          ∙ subst (λ b. leads_from w1 b l.path ≡ true) f.base there)

  pub may_have : MayHave m a
  may_have =
      let o = led_open z low top (shaped z h) d w m x true l leads.at (shape z ty) leads.led there_before in
      let is = at_word z low top h d w m l a ty true x leads there_before in
      let long = blocky_bytes (shape z ty) blocky in (
        subst (λ k. may_put m k Word ≡ true) (let e : leads.at + 0 ≡ a = omega (arith, is) in e) (o.may 0 (omega (arith, long)) refl),
        subst (λ k. may_put m k Word ≡ true) (let e : leads.at + 4 ≡ a + 4 = omega (arith, is) in e) (o.may 4 (omega (arith, long)) refl),
      )

  -- behind the routine it is put
  module _ (other : Memory)
      (y : LeavesHandle z.StandsFixed d (heap_fresh w.heap bytes c) m other a (shape z ty) n bytes (block_fresh w.heap bytes)) where
    pub middle_here : IsHere z low top (shaped z h) y.after w1 y.middle
    middle_here = inside_here z low top (shaped z h) d w m x y.after y.ahead y.middle y.rest w1 frames under_way input
        (subst (λ q. HasHeap z.StandsFixed y.after q y.middle) (sym heap) y.has)

    pub leads_then : IsLed z true h y.after l a ty
    leads_then = leads_later z.StandsFixed z.Homes z.first true (shaped z h) d y.after y.ahead l a (shape z ty) leads

    pub fresh_put : IsThen z low top (shaped z h) y.after w1 y.middle middle_here l (Handle n (block_fresh w.heap bytes)) other
    fresh_put =
        let is = at_word z low top h y.after w1 y.middle l a ty true middle_here leads_then there in
        is_put z low top (shaped z h) y.after w1 y.middle middle_here l leads_then.at (shape z ty) leads_then.led there other
        (z.law.regions _ _ y.regions y.put.sizes) (Handle n (block_fresh w.heap bytes))
        (subst (λ k. IsRewritten y.middle other leads_then.at k) (sym (blocky_bytes (shape z ty) blocky))
        (subst (λ k. IsRewritten y.middle other k 8) is y.put))
        (handle_there z.StandsFixed y.after other leads_then.at (shape z ty) n (block_fresh w.heap bytes) blocky
        (subst (λ k. StoresHandle y.after other k (shape z ty) n (block_fresh w.heap bytes)) is y.handle))

    pub put_here : IsHere z low top (shaped z h) fresh_put.after (store w1 l (Handle n (block_fresh w.heap bytes))) other
    put_here = fresh_put.then

    pub put_later : AreLater d fresh_put.after
    put_later = later_more d y.after fresh_put.after y.ahead fresh_put.ahead
