-- What word code gives hooks that they need of what is around them: homes that hold, one behind the other the values under way, and blocks.
use Rattle.std.proofs.Common.{◌≡◌, inl, inr, ℕ, suc, ◌+◌, ◌*◌, ◌%◌, ◌^◌, ◌<◌, ◌≤◌, Bool, true, false, List, [], ◌∷◌, ◌++◌, length, take, Option, Some}
use Rattle.std.proofs.Common.{refl, sym, ap, subst, ◌∙◌, arith}
use Rattle.std.specs.Prelude.{slice_get}
use Rattle.nim_types.specs.declared.types.TypeDef.{TypeDef}
use Rattle.nim_types.specs.declared.types.TypeDef.TheVariants as D
use Rattle.nim_types.specs.declared.types.TheConstants.{LIST_BYTES}
use Rattle.nim_meaning.specs.Values.{Value, Handle, Fixed, Vacant, InHand, Location, at_base, deeper, item_of, length_of, block_of, vacant}
use Rattle.nim_meaning.specs.State.{World, load, store, pushed, popped, is_there}
use Rattle.flat_code.specs.Scene.{known_in}
use Rattle.flat_code.specs.Lines.{form_in}
use Rattle.flat_code.specs.Shapes.{Shape, block, elements}
use Rattle.rv32_isa.specs.declared.micro_op.Size.TheVariants.{Word}
use Rattle.rv32_isa.specs.Image.{stack_at}
use Rattle.word_code.specs.Memory.{Memory, bytes_at, may_put, with_number, with_places, without_places}
use Rattle.word_code.proofs.ForCallers.{Sized}
use Rattle.hook_lifting.proofs.ForCallers.{form_at}
use Rattle.hook_code.specs.HookCode.{bytes_at as size_at, bytes_all, parts_in, part_at}
use Rattle.hook_code.specs.Surroundings.{Hand as HookHand, with_one, IsHandled, IsDistinct, plain_parts, IsFull, element_address}
use Rattle.hook_code.specs.Surroundings.{IsRead, IsPut, Stays, StaysIf, Surroundings}
use Rattle.word_lowering.specs.Stored.{bytes_all as all_bytes}
use Rattle.word_lowering.proofs.Options.{none_some}
use Rattle.word_lowering.proofs.TypeShapes.{type_bytes}
use Rattle.word_lowering.proofs.Blocks.{Blocks, AreLater, Stored}
use Rattle.word_lowering.proofs.BlocksBorn.{later_same, later_more}
use Rattle.word_lowering.proofs.BlockHomes.{Home, home_bytes, outside_then}
use Rattle.word_lowering.proofs.CallPlaces.{Grown, places_come, places_go}
use Rattle.word_lowering.proofs.HandHomes.{Hand, AllHomes, AllHold, Ascends, in_range}
use Rattle.word_lowering.proofs.HeapKept.{SameHeap, heap_turned, heap_then}
use Rattle.word_lowering.proofs.InMemory.{Carries}
use Rattle.word_lowering.proofs.StoredLater.{stored_kept}
use Rattle.word_lowering.proofs.RoutineMemory.{same_word}
use Rattle.word_lowering.proofs.HookHere.{pops, ascends_less, ascends_past, whole_less}
use Rattle.word_lowering.proofs.HookHomes.{HookHomes, IsHere, sized, start_here, led_open}
use Rattle.word_lowering.proofs.HookLeads.{IsHandle, AreHandle, IsSomeHandle, Leads, leads_small, leads_later, leads_read, leads_more, to_step, to_element}
use Rattle.word_lowering.proofs.HookLeads.{element_word, own_handle, some_later, some_small, shortened, hand_leads}
use Rattle.word_lowering.proofs.HookSteps.{shape_at, tuple_step, object_step, array_step, seq_shape, text_shape, base_shape}
use Rattle.word_lowering.proofs.HookWords.{IsBlocky, reads_there, stays_there, puts_there, empties_there, comes_under_way, free_open, free_written}
use Rattle.word_lowering.proofs.HookWords.{behind_is, handle_stands, may_first, may_second, both_put, both_sized, both_written, first_reads, second_reads}
use Rattle.word_lowering.proofs.HookWorlds.{like_beside, memory_grown, memory_shrunk}

-- ---- values

sure : (v : Value) → IsFull v → v ≡ Vacant → ⊥
sure v full e = subst IsFull e full

module _ (z : HookHomes) where
  abbrev pub shape : ℕ → Shape
  shape ty = shape_at z.table z.is_table z.have ty

  -- by the table
  abbrev pub shaped : HookHand → Hand
  shaped [] = []
  shaped (p ∷ h) = (p.0, shape p.1) ∷ shaped h

  shaped_more : (h : HookHand) (a ty : ℕ) → shaped (with_one h a ty) ≡ shaped h ++ (a, shape ty) ∷ []
  shaped_more [] a ty = refl
  shaped_more (p ∷ h) a ty = ap (λ q. (p.0, shape p.1) ∷ q) (shaped_more h a ty)

  pub shaped_long : (h : HookHand) → length (shaped h) ≡ length h
  shaped_long [] = refl
  shaped_long (p ∷ h) = ap suc (shaped_long h)

  -- ---- types

  same_bytes : (tys : List ℕ) → all_bytes z.table tys ≡ bytes_all z.table tys
  same_bytes [] = refl
  same_bytes (ty ∷ tys) = ap (λ n. size_at z.table ty + n) (same_bytes tys)

  blocky : (ty : ℕ) → IsHandled (slice_get z.table ty) → IsBlocky (shape ty)
  blocky ty is = by (slice_get z.table ty) refl is
    where
      by : (o : Option TypeDef) → slice_get z.table ty ≡ o → IsHandled o → IsBlocky (shape ty)
      by (Some D.Text) e is = subst IsBlocky (sym (text_shape z.table z.is_table z.have ty e)) tt
      by (Some (D.Seq of)) e is = subst IsBlocky (sym (seq_shape z.table z.is_table z.have ty of e)) tt
      by o e is = absurd is

  starts_vacant : (ty : ℕ) → IsHandled (slice_get z.table ty) → vacant (form_in (known_in z.table) ty) ≡ Vacant
  starts_vacant ty is = by (slice_get z.table ty) refl is
    where
      by : (o : Option TypeDef) → slice_get z.table ty ≡ o → IsHandled o → vacant (form_in (known_in z.table) ty) ≡ Vacant
      by (Some D.Text) e is = ap vacant (form_at z.table z.is_table z.have ty D.Text e)
      by (Some (D.Seq of)) e is = ap vacant (form_at z.table z.is_table z.have ty (D.Seq of) e)
      by o e is = absurd is

  -- ---- locations

  abbrev pub IsLed : Bool → HookHand → Blocks → Location → (a ty : ℕ) → Type 0
  IsLed o h d l a ty = Leads z.StandsFixed z.Homes z.first o (shaped h) d l a (shape ty)

  abbrev pub AreWords : (own : Bool) → Blocks → (ty : ℕ) → Value → (n p : ℕ) → Type 0
  AreWords o d ty v n p = IsSomeHandle z.StandsFixed o d (shape ty) v n p

  pub part_led : (o : Bool) (h : HookHand) (d : Blocks) (l : Location) (a ty i of : ℕ) → slice_get (plain_parts (slice_get z.table ty)) i ≡ Some of
      → IsLed o h d l a ty → IsLed o h d (deeper l i) ((a + part_at z.table ty i) % 2 ^ 32) of
  part_led o h d l a ty i of is x = by (slice_get z.table ty) refl is
    where
      there : (tys : List ℕ) → part_at z.table ty i ≡ bytes_all z.table (take i tys)
          → IsLed o h d (deeper l i) ((a + all_bytes z.table (take i tys)) % 2 ^ 32) of → IsLed o h d (deeper l i) ((a + part_at z.table ty i) % 2 ^ 32) of
      there tys e led = subst (λ n. IsLed o h d (deeper l i) ((a + n) % 2 ^ 32) of) (same_bytes (take i tys) ∙ sym e) led

      by : (q : Option TypeDef) → slice_get z.table ty ≡ q → slice_get (plain_parts q) i ≡ Some of →
          IsLed o h d (deeper l i) ((a + part_at z.table ty i) % 2 ^ 32) of
      by (Some (D.Tuple names tys)) e is =
          there tys (ap (λ q. bytes_all z.table (take i (parts_in z.table q))) e)
          (to_step z.StandsFixed z.Homes z.first o (shaped h) d l a (shape ty) i (all_bytes z.table (take i tys)) (shape of)
          (tuple_step z.table z.is_table z.have ty i of names tys e is) x)
      by (Some (D.Object name place arguments all false tys)) e is =
          there tys (ap (λ q. bytes_all z.table (take i (parts_in z.table q))) e)
          (to_step z.StandsFixed z.Homes z.first o (shaped h) d l a (shape ty) i (all_bytes z.table (take i tys)) (shape of)
          (object_step z.table z.is_table z.have ty i of name place arguments all tys e is) x)
      by q e is = absurd (none_some of is)

  pub member_led : (o : Bool) (h : HookHand) (d : Blocks) (l : Location) (a ty n i of : ℕ) → slice_get z.table ty ≡ Some (D.Array n of) → i < n
      → IsLed o h d l a ty → IsLed o h d (deeper l i) (element_address a i (size_at z.table of)) of
  member_led o h d l a ty n i of e less x =
      subst (λ k. IsLed o h d (deeper l i) k of) (sym (element_word a i (size_at z.table of)))
      (to_step z.StandsFixed z.Homes z.first o (shaped h) d l a (shape ty) i (i * size_at z.table of) (shape of)
      (array_step z.table z.is_table z.have ty n i of e less) x)

  pub element_led : (o : Bool) (h : HookHand) (d : Blocks) (l : Location) (v : Value) (a ty n p i of : ℕ) → slice_get z.table ty ≡ Some (D.Seq of) → IsFull v
      → AreWords o d ty v n p → StaysIf o l v → i < length_of v → IsLed o h d l a ty → IsLed o h d (item_of v l i) (element_address p i (size_at z.table of)) of
  element_led o h d l v a ty n p i of e full are stays less x =
      subst (λ k. IsLed o h d (item_of v l i) k of)
      (ap (λ b. (p + i * b) % 2 ^ 32) (sym (type_bytes z.table z.is_table z.have of)) ∙ sym (element_word p i (size_at z.table of)))
      (to_element z.StandsFixed z.Homes z.first o (shaped h) d l (shape of) v n p i (sure v full)
      (subst (λ s. IsSomeHandle z.StandsFixed o d s v n p) (seq_shape z.table z.is_table z.have ty of e) are) stays less)

  pub base_led : (o : Bool) (h : HookHand) (d : Blocks) (l : Location) (a ty base : ℕ) → IsDistinct (slice_get z.table ty) base → IsLed o h d l a ty
      → IsLed o h d l a base
  base_led o h d l a ty base is x = by (slice_get z.table ty) refl is
    where
      by : (q : Option TypeDef) → slice_get z.table ty ≡ q → IsDistinct q base → IsLed o h d l a base
      by (Some (D.Distinct name place of)) e is =
          subst (λ s. Leads z.StandsFixed z.Homes z.first o (shaped h) d l a s) (base_shape z.table z.is_table z.have ty of name place e ∙ ap shape is) x
      by q e is = absurd is

  pub more_led : (o : Bool) (h : HookHand) (d : Blocks) (l : Location) (a ty b other : ℕ) → IsLed o h d l a ty → IsLed o (with_one h b other) d l a ty
  more_led o h d l a ty b other x =
      subst (λ q. Leads z.StandsFixed z.Homes z.first o q d l a (shape ty)) (sym (shaped_more h b other))
      (leads_more z.StandsFixed z.Homes z.first o (shaped h) d l a (shape ty) (b, shape other) x)

  -- ---- handles

  pub length_same : (o : Bool) (d : Blocks) (v : Value) (ty n p : ℕ) → IsFull v → AreWords o d ty v n p → length_of v ≡ n
  length_same o d v ty n p full (inr q) = ap length_of q.value ∙ sym q.length
  length_same o d v ty n p full (inl are) = by (shape ty) v full are.are
    where
      by : (s : Shape) (v : Value) → IsFull v → AreHandle z.StandsFixed d s v n p → length_of v ≡ n
      by s Vacant full are = absurd full
      by s (Handle k b) full are = sym are.length
      by block (Fixed text) full are = sym are.0
      by s v full are = absurd are

  pub less_words : (d : Blocks) (v : Value) (ty of n p k : ℕ) → slice_get z.table ty ≡ Some (D.Seq of) → IsFull v → AreWords true d ty v n p
      → k ≤ length_of v → AreWords true d ty (Handle k (block_of v)) k p
  less_words d v ty of n p k e full are less =
      let is = seq_shape z.table z.is_table z.have ty of e in
      inl (subst (λ s. IsHandle z.StandsFixed d s (Handle k (block_of v)) k p) (sym is)
      (shortened z.StandsFixed d (shape of) v n p k (sure v full)
      (subst (λ s. IsHandle z.StandsFixed d s v n p) is (own_handle z.StandsFixed d (shape ty) v n p are)) less))

  -- ---- what holds

  abbrev Holds : (low top : ℕ) → HookHand → Blocks → World → Memory → Type 0
  Holds low top h d w m = IsHere z low top (shaped h) d w m

  -- a location's address is its word
  module _ (low top : ℕ) (h : HookHand) (d : Blocks) (w : World) (m : Memory) (l : Location) (a ty : ℕ) (o : Bool) (x : Holds low top h d w m)
      (f : IsLed o h d l a ty) (live : is_there w l ≡ true) where
    pub at_word : a ≡ f.at
    at_word =
        let q = led_open z low top (shaped h) d w m x o l f.at (shape ty) f.led live in
        let s = q.small in let e = f.word in omega (arith, s, e)

  pub reads_words : (o : Bool) (low top : ℕ) (h : HookHand) (d : Blocks) (w : World) (m : Memory) (l : Location) (a ty : ℕ) → Holds low top h d w m
      → IsLed o h d l a ty → IsHandled (slice_get z.table ty) → is_there w l ≡ true → IsRead (λ n p. AreWords o d ty (load w l) n p) m a
  reads_words o low top h d w m l a ty x f is live =
      subst (λ k. IsRead (λ n p. AreWords o d ty (load w l) n p) m k) (sym (at_word low top h d w m l a ty o x f live))
      (reads_there z low top (shaped h) d w m x o l f.at (shape ty) (blocky ty is) f.led live)

  pub stays_words : (low top : ℕ) (h : HookHand) (d : Blocks) (w : World) (m : Memory) (l : Location) (a ty : ℕ) → Holds low top h d w m
      → IsLed false h d l a ty → IsHandled (slice_get z.table ty) → is_there w l ≡ true → Stays l (load w l)
  stays_words low top h d w m l a ty x f is live = stays_there z low top (shaped h) d w m x false l f.at (shape ty) (blocky ty is) f.led live

  abbrev Behind : (low top : ℕ) → HookHand → Blocks → World → Memory → Type 0
  Behind low top h d w other = (e : Blocks) × AreLater d e × Holds low top h e w other

  pub puts_words : (low top : ℕ) (h : HookHand) (d : Blocks) (w : World) (m : Memory) (l : Location) (a ty : ℕ) → Holds low top h d w m → IsLed true h d l a ty
      → IsHandled (slice_get z.table ty) → is_there w l ≡ true → (v : Value) (n p : ℕ) → AreWords true d ty v n p
      → IsPut (λ other. Behind low top h d (store w l v) other) m a n p
  puts_words low top h d w m l a ty x f is live v n p are =
      let q = puts_there z low top (shaped h) d w m x l f.at (shape ty) (blocky ty is) f.led live v n p (own_handle z.StandsFixed d (shape ty) v n p are) in
      let t = q.then in
      subst (λ k. IsPut (λ other. Behind low top h d (store w l v) other) m k n p) (sym (at_word low top h d w m l a ty true x f live))
      (record { first = q.first; second = q.second; then = (t.after, t.ahead, t.then) })

  pub empties_words : (low top : ℕ) (h : HookHand) (d : Blocks) (w : World) (m : Memory) (l : Location) (a ty : ℕ) → Holds low top h d w m →
      IsLed true h d l a ty
      → IsHandled (slice_get z.table ty) → is_there w l ≡ true → Behind low top h d (store w l Vacant) m
  empties_words low top h d w m l a ty x f is live =
      let t = empties_there z low top (shaped h) d w m x l f.at (shape ty) (blocky ty is) f.led live in (t.after, t.ahead, t.then)

  -- ---- under way

  pub hand_led : (high top low ty : ℕ) (h : HookHand) (d : Blocks) (w : World) (m : Memory) → Holds high top (with_one h low ty) d w m
      → IsLed true (with_one h low ty) d (at_base (InHand (z.first + length h))) low ty
  hand_led high top low ty h d w m x =
      let y : IsHere z high top (shaped h ++ (low, shape ty) ∷ []) d w m = subst (λ q. IsHere z high top q d w m) (shaped_more h low ty) x in
      let r = ascends_less z.start (shaped h) low (shape ty) high y.here.up in
      let within = r.1 in let fits = y.here.fits in let e = y.ends in
      let most = (sized z high top (shaped h ++ (low, shape ty) ∷ []) d w m y).stack_most in
      subst (λ q. Leads z.StandsFixed z.Homes z.first true q d (at_base (InHand (z.first + length h))) low (shape ty)) (sym (shaped_more h low ty))
      (subst (λ k. Leads z.StandsFixed z.Homes z.first true (shaped h ++ (low, shape ty) ∷ []) d (at_base (InHand (z.first + k))) low (shape ty))
      (shaped_long h)
      (hand_leads z.StandsFixed z.Homes z.first (shaped h) d low (shape ty) (omega (arith, within, fits, e, most))))

  one_more : (low top ty : ℕ) (h : HookHand) (d : Blocks) (w : World) (m : Memory) → IsHere z (low + LIST_BYTES) top (shaped h ++ (low, shape ty) ∷ []) d w m
      → Holds (low + LIST_BYTES) top (with_one h low ty) d w m
  one_more low top ty h d w m x = subst (λ q. IsHere z (low + LIST_BYTES) top q d w m) (sym (shaped_more h low ty)) x

  pub begins_nothing : (low top : ℕ) (h : HookHand) (d : Blocks) (w : World) (m : Memory) (ty : ℕ) → Holds low top h d w m → IsHandled (slice_get z.table ty)
      → low + LIST_BYTES ≤ top → Holds (low + LIST_BYTES) top (with_one h low ty) d (pushed w (vacant (form_in (known_in z.table) ty))) m
  begins_nothing low top h d w m ty x is room =
      subst (λ v. Holds (low + LIST_BYTES) top (with_one h low ty) d (pushed w v) m) (sym (starts_vacant ty is))
      (one_more low top ty h d (pushed w Vacant) m
      (comes_under_way z low top (shaped h) d w m x (shape ty) (blocky ty is) Vacant room (nothing (shape ty) (blocky ty is))))
    where
      nothing : (t : Shape) → IsBlocky t → Stored z.StandsFixed d m low t Vacant
      nothing block is = tt
      nothing (elements s) is = tt
      nothing t is = absurd is

  pub pushes_words : (low top : ℕ) (h : HookHand) (d : Blocks) (w : World) (m : Memory) (ty : ℕ) → Holds low top h d w m → IsHandled (slice_get z.table ty)
      → low + LIST_BYTES ≤ top → (v : Value) (n p : ℕ) → AreWords true d ty v n p
      → IsPut (λ other. Holds (low + LIST_BYTES) top (with_one h low ty) d (pushed w v) other) m low n p
  pushes_words low top h d w m ty x is room v n p words =
      let are = own_handle z.StandsFixed d (shape ty) v n p words in
      let s = sized z low top (shaped h) d w m x in
      let o = free_open z low top (shaped h) d w m x room in
      let next : low + 4 ≡ (low + 4) % 2 ^ 32 = behind_is low o.small in
      let other : Memory = both_put z m s low n p o are.few are.near in
      let sized_other : Sized other = both_sized z m s low n p o are.few are.near in
      let y = free_written z low top (shaped h) d w m x other sized_other room (both_written z m s low n p o are.few are.near) in
      record {
        first = may_first z m s low n p o are.few are.near;
        second = subst (λ b. may_put (with_number m low Word n) b Word ≡ true) next (may_second z m s low n p o are.few are.near);
        then = subst (λ b. Holds (low + LIST_BYTES) top (with_one h low ty) d (pushed w v) (with_number (with_number m low Word n) b Word p)) next
            (one_more low top ty h d (pushed w v) other
            (comes_under_way z low top (shaped h) d w other y (shape ty) (blocky ty is) v room
            (handle_stands z.StandsFixed d other sized_other (shape ty) v low n p (blocky ty is) are
            (first_reads z m s low n p o are.few are.near) (second_reads z m s low n p o are.few are.near))));
      }

  pub pops_one : (high top low ty : ℕ) (h : HookHand) (d : Blocks) (w : World) (m : Memory) → Holds high top (with_one h low ty) d w m
      → Holds low top h d (popped w) m
  pops_one high top low ty h d w m x =
      let y : IsHere z high top (shaped h ++ (low, shape ty) ∷ []) d w m = subst (λ q. IsHere z high top q d w m) (shaped_more h low ty) x in
      let r = whole_less (shaped h) (low, shape ty) y.hand_whole in
      record {
        here = pops z.StandsFixed z.Homes z.apart z.start z.under z.first z.others high top low (shape ty) (shaped h) d w m y.here;
        low_whole = r.1;
        top_whole = y.top_whole;
        hand_whole = r.0;
        ends = y.ends;
        like = like_beside z.Homes z.world w (popped w) refl refl y.like;
        same = y.same;
        bytes = y.bytes;
      }

  -- ---- calls

  -- homes before an address hold where memory is the same before it
  same_before : (hand : Hand) (low upper lower : ℕ) (up : Ascends z.start hand upper) (then_up : Ascends z.start hand lower)
      → ((h : Home) → AllHomes z.StandsFixed z.Homes z.apart z.start z.under z.first z.others hand h → h.at + home_bytes h ≤ low)
      → (d : Blocks) (w : World) (m other : Memory) → AllHold z.StandsFixed z.Homes z.apart z.start z.under z.first z.others hand upper up d w m → Sized other
      → SameHeap m other → ((b n : ℕ) → b + n ≤ low → bytes_at other b n ≡ bytes_at m b n)
      → AllHold z.StandsFixed z.Homes z.apart z.start z.under z.first z.others hand lower then_up d w other
  same_before hand low upper lower up then_up ends d w m other x sized_other same bytes = record {
    sized = sized_other;
    heap = heap_then z.StandsFixed d w.heap m other x.sized sized_other same x.heap;
    homes = λ h i.
        let at = x.homes h i in
        record {
          value = at.value;
          holds = at.holds;
          stored = stored_kept z.StandsFixed d d (later_same d) m other h.at h.at h.shape at.value (carried h i) at.stored;
          elsewhere = outside_then m other h.at (home_bytes h) same.long at.elsewhere;
        };
  }
    where
      carried : (h : Home) → AllHomes z.StandsFixed z.Homes z.apart z.start z.under z.first z.others hand h → Carries m other h.at h.at (home_bytes h)
      carried h i at v within whole reads =
          let e = ends h i in same_word m other (h.at + at) (bytes (h.at + at) 4 (omega (arith, e, within))) ∙ reads

  -- where places come, nothing of the heap is other
  grown_heap : (m more : Memory) (room : ℕ) → Grown m more room → Sized m → SameHeap m more
  grown_heap m more room g s = record {
    statics = g.statics;
    long = g.heap;
    front = λ b n low high. g.bytes b n (omega (arith, high));
    inside = λ b n low high. g.bytes b n (let most = s.heap_most in omega (arith, high, most));
  }

  -- all homes end before the free places
  home_ends : (low top : ℕ) (hand : Hand) (d : Blocks) (w : World) (m : Memory) → IsHere z low top hand d w m → (h : Home)
      → AllHomes z.StandsFixed z.Homes z.apart z.start z.under z.first z.others hand h → h.at + home_bytes h ≤ low
  home_ends low top hand d w m x h (inl i) = let u = z.under h i in let s = start_here z low top hand d w m x in omega (arith, u, s)
  home_ends low top hand d w m x h (inr i) = (in_range z.first z.start hand low h x.here.up i).ends

  module _ (low top : ℕ) (hand : Hand) (d : Blocks) (w : World) (m : Memory) (x : IsHere z low top hand d w m) (room : top + LIST_BYTES ≤ z.limit)
      (bytes : List ℕ) where
    abbrev more : Memory
    more = with_places m LIST_BYTES bytes

    grown : Grown m more LIST_BYTES
    grown = places_come m LIST_BYTES bytes

    low_within : low ≤ stack_at + length m.places
    low_within = let f = x.here.fits in let e = x.ends in omega (arith, f, e)

    sized_more : Sized more
    sized_more =
        let s = sized z low top hand d w m x in
        record {
          code_most = omega arith;
          statics_most = (let h = s.statics_most in let e = grown.statics in omega (arith, h, e));
          heap_most = (let h = s.heap_most in let e = grown.heap in omega (arith, h, e));
          stack_most = (let h = grown.places in let e = x.ends in let l = z.limit_most in omega (arith, h, e, l, room));
        }

    pub enters_there : IsHere z top (top + LIST_BYTES) hand d w more
    enters_there = record {
      here = record {
        up = ascends_past z.start hand low top x.here.fits x.here.up;
        holds = same_before hand low low top x.here.up (ascends_past z.start hand low top x.here.fits x.here.up) (home_ends low top hand d w m x) d w m more
            x.here.holds sized_more (grown_heap m more LIST_BYTES grown (sized z low top hand d w m x))
            (λ b n le. let k = low_within in grown.bytes b n (omega (arith, le, k)));
        long = x.here.long;
        fits = omega arith;
      };
      low_whole = x.top_whole;
      top_whole = (let e = x.top_whole in omega (arith, e));
      hand_whole = x.hand_whole;
      ends = (let h = grown.places in let e = x.ends in omega (arith, h, e));
      like = x.like;
      same = memory_grown z.Homes z.start z.memory m more LIST_BYTES
          (let s = start_here z low top hand d w m x in let k = low_within in omega (arith, s, k)) grown x.same;
      bytes = x.bytes;
    }

  module _ (low top : ℕ) (hand : Hand) (c d : Blocks) (v w : World) (m other : Memory) (x : IsHere z low top hand c v m)
      (y : IsHere z top (top + LIST_BYTES) hand d w other) where
    abbrev less : Memory
    less = without_places other LIST_BYTES

    shrunk : Grown less other LIST_BYTES
    shrunk = places_go other LIST_BYTES
        (let e = y.ends in let s = start_here z top (top + LIST_BYTES) hand d w other y in let l = z.start_low in omega (arith, e, s, l))

    low_before : low ≤ stack_at + length less.places
    low_before = let f = x.here.fits in let e = y.ends in let h = shrunk.places in omega (arith, f, e, h)

    sized_less : Sized less
    sized_less =
        let s = sized z top (top + LIST_BYTES) hand d w other y in
        record {
          code_most = omega arith;
          statics_most = (let h = s.statics_most in let e = shrunk.statics in omega (arith, h, e));
          heap_most = (let h = s.heap_most in let e = shrunk.heap in omega (arith, h, e));
          stack_most = (let h = s.stack_most in let e = shrunk.places in omega (arith, h, e));
        }

    pub leaves_there : IsHere z low top hand d w less
    leaves_there = record {
      here = record {
        up = x.here.up;
        holds = same_before hand low top low y.here.up x.here.up (home_ends low top hand c v m x) d w other less y.here.holds sized_less
            (heap_turned less other (grown_heap less other LIST_BYTES shrunk sized_less))
            (λ b n le. let k = low_before in sym (shrunk.bytes b n (omega (arith, le, k))));
        long = y.here.long;
        fits = x.here.fits;
      };
      low_whole = x.low_whole;
      top_whole = x.top_whole;
      hand_whole = x.hand_whole;
      ends = (let e = y.ends in let h = shrunk.places in omega (arith, e, h));
      like = y.like;
      same = memory_shrunk z.Homes z.start z.memory other less LIST_BYTES
          (let s = start_here z low top hand c v m x in let k = low_before in omega (arith, s, k)) shrunk y.same;
      bytes = y.bytes;
    }

  -- ---- all of it

  abbrev pub surroundings : Surroundings z.table
  surroundings = record {
    Blocks = Blocks;
    Later = AreLater;
    same = later_same;
    still_later = later_more;
    before = z.first;
    limit = z.limit;
    limit_small = (let l = z.limit_most in omega (arith, l));
    Here = Holds;
    Leads = IsLed;
    IsHandle = AreWords;
    leads_later = λ o h d e l a ty ahead f. leads_later z.StandsFixed z.Homes z.first o (shaped h) d e ahead l a (shape ty) f;
    leads_read = λ h d l a ty f. leads_read z.StandsFixed z.Homes z.first (shaped h) d l a (shape ty) f;
    leads_more = more_led;
    handle_later = λ o d e v ty n p ahead are. some_later z.StandsFixed o d e ahead (shape ty) v n p are;
    leads_small = λ o h d l a ty f. leads_small z.StandsFixed z.Homes z.first o (shaped h) d l a (shape ty) f;
    handle_small = λ o d v ty n p are. some_small z.StandsFixed o d (shape ty) v n p are;
    to_part = part_led;
    to_member = member_led;
    to_element = element_led;
    to_base = base_led;
    length_is = length_same;
    shortened = less_words;
    reads = reads_words;
    stays = stays_words;
    puts = puts_words;
    empties = empties_words;
    hand_long = λ low top h d w m x. x.here.long ∙ ap (λ n. z.first + n) (shaped_long h);
    hand_leads = hand_led;
    begins = begins_nothing;
    pushes = pushes_words;
    pops = pops_one;
    enters = λ low top h d w m x room bytes. enters_there low top (shaped h) d w m x room bytes;
    leaves = λ low top h c d v w m other x ahead y. leaves_there low top (shaped h) c d v w m other x y;
  }
