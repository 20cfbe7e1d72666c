-- The deed that reads a line into the text at a location: the world behind it.
use Rattle.std.proofs.Common.{◌≡◌, ℕ, ◌+◌, ◌-◌, List, [], ◌∷◌, ◌++◌, length, take, Option, Some, None, Bool, true, false, refl, sym, ap, subst, ◌∙◌, arith}
use Rattle.std.proofs.lemmas.Option.{none-some, same_Some}
use Rattle.arc_base.specs.Event.{Event}
use Rattle.nim_types.specs.Forms.{block}
use Rattle.nim_meaning.specs.Values.{Value, Handle, Vacant, InHand, Location, at_base, block_of, is_handle, length_of}
use Rattle.nim_meaning.specs.Heap.{Block, Heap, block_at, given, without}
use Rattle.nim_meaning.specs.State.{World, hand_value, is_full_at, is_live, is_seen, is_there, load, popped, pushed, reading_on, store}
use Rattle.nim_meaning.specs.Deeds.{Deed, Done, Answers, Finishes, Fails, Frees, Pops, Stores, behind, costs, does, freed, frees, give, perform, sets, takes}
use Rattle.nim_meaning.specs.Deeds.{unless_gone, ◌>>=◌, ◌>>◌}
use Rattle.nim_meaning.specs.Lifted.{given_up, replaced}
use Rattle.nim_meaning.specs.OwnedRows.{each_appended, line_read, next_line, up_to_feed}
use Rattle.word_lowering.proofs.AddedRows.{set_end}
use Rattle.word_lowering.proofs.BlockLists.{get_here, length_more}
use Rattle.word_lowering.proofs.FreshRows.{answer, behind_answer}
use Rattle.word_lowering.proofs.HeapWanted.{followed, perform_then}
use Rattle.word_lowering.proofs.LinesRead.{IsIn, Line, all_alike, all_next, in_it, line_world, value_is}
use Rattle.word_lowering.proofs.ResizedWorlds.{AreAlike, answered, behind_answers}

-- ---- a deed behind another one

module _ {A B : Type 0} (rest : A → Deed B) where
  pub record Followed (done : Done A) (after : World) : Type 0 where
    pub given : A
    pub middle : World
    pub events : List Event
    pub work : ℕ
    pub is : done ≡ Answers events work given middle
    pub go : answered (perform (rest given) middle) ≡ Some after

  pub then_done : (a : Deed A) (w after : World) → answered (perform (a >>= rest) w) ≡ Some after → Followed (perform a w) after
  then_done a w after h = by (perform a w) (sym (ap answered (perform_then rest a w)) ∙ h)
    where
      by : (done : Done A) → answered (followed rest done) ≡ Some after → Followed done after
      by (Answers es n x v) g = record {
        given = x;
        middle = v;
        events = es;
        work = n;
        is = refl;
        go = sym (behind_answers es n (perform (rest x) v)) ∙ g;
      }
      by (Finishes es n status v) g = absurd (none-some after g)
      by (Fails es n v) g = absurd (none-some after g)

-- what is under way is no more
take_all : {A : Type 0} (xs : List A) (x : A) → take (length xs) (xs ++ x ∷ []) ≡ xs
take_all [] x = refl
take_all (y ∷ xs) x = ap (λ ys. y ∷ ys) (take_all xs x)

pub take_front : {A : Type 0} (xs : List A) (x : A) → take (length (xs ++ x ∷ []) - 1) (xs ++ x ∷ []) ≡ xs
take_front xs x =
    let l = length_more xs x in
    let e : length (xs ++ x ∷ []) - 1 ≡ length xs = omega (arith, l) in
    ap (λ n. take n (xs ++ x ∷ [])) e ∙ take_all xs x

-- ---- a line is read

module _ (w : World) (input : List ℕ) where
  abbrev pub line_text : List ℕ
  line_text = next_line input

  abbrev pub no_line : Line
  no_line = record { heap = w.heap; block = None; text = [] }

  abbrev pub line_now : Line
  line_now = all_next no_line line_text

  abbrev pub read_world : World
  read_world = reading_on w (up_to_feed input)

  abbrev pub first_world : World
  first_world = pushed read_world (Handle 0 None)

  abbrev pub there : Location
  there = in_it read_world w.hand

  pub first_alike : AreAlike first_world (line_world read_world w.hand no_line)
  first_alike = record { heap = refl; frames = refl; hand = refl }

  pub record LineDone (v : Value) (then_world : World) : Type 0 where
    pub value : v ≡ Handle (length line_now.text) line_now.block
    pub alike : AreAlike then_world (record w { heap = line_now.heap })
    pub is_in : IsIn line_now.heap line_now.block line_now.text

  abbrev pub ends_line : Unit {0} → Deed Value
  ends_line _ = takes there (λ z new. does Pops >> give new)

  ends_done : (z after : World) → answered (perform (ends_line tt) z) ≡ Some after → perform (ends_line tt) z ≡ Answers [] 0 (load z there) (popped z)
  ends_done z after h = by (is_full_at z there) h
    where
      by : (b : Bool) → answered (perform (unless_gone b (does Pops >> give (load z there))) z) ≡ Some after
          → perform (unless_gone b (does Pops >> give (load z there))) z ≡ Answers [] 0 (load z there) (popped z)
      by true h = refl
      by false h = absurd (none-some after h)

  pub line_done : (es : List Event) (n : ℕ) (v : Value) (after : World) → perform (line_read input) w ≡ Answers es n v after → LineDone v after
  line_done es n v after e =
      let whole : Deed Value = each_appended line_text there >>= ends_line in
      let h : answered (perform whole first_world) ≡ Some after
      = sym (behind_answers [] (up_to_feed input) (perform whole first_world)) ∙ ap answered e in
      let f : Followed ends_line (perform (each_appended line_text there) first_world) after
      = then_done ends_line (each_appended line_text there) first_world after h in
      let ends_is : perform (ends_line tt) f.middle ≡ Answers [] 0 (load f.middle there) (popped f.middle) = ends_done f.middle after f.go in
      let popped_is : popped f.middle ≡ after = same_Some (popped f.middle) after (sym (ap answered ends_is) ∙ f.go) in
      let a = all_alike read_world w.hand line_text no_line refl first_world first_alike f.middle (ap answered f.is) in
      let loaded : load f.middle there ≡ Handle (length line_now.text) line_now.block = value_is read_world w.hand line_now a.1 f.middle a.0 in
      let answer_is : answer (perform whole first_world) ≡ Some (load f.middle there)
      = ap answer (perform_then ends_line (each_appended line_text there) first_world ∙ ap (followed ends_line) f.is ∙ ap (behind f.events f.work) ends_is)
      ∙ behind_answer f.events f.work (Answers [] 0 (load f.middle there) (popped f.middle)) in
      record {
        value = same_Some v (load f.middle there)
            (sym (ap answer e) ∙ behind_answer [] (up_to_feed input) (perform whole first_world) ∙ answer_is) ∙ loaded;
        alike = subst (λ z. AreAlike z (record w { heap = line_now.heap })) popped_is (record {
          heap = a.0.heap;
          frames = a.0.frames;
          hand = ap (λ hand. take (length hand - 1) hand) a.0.hand ∙ take_front w.hand (Handle (length line_now.text) line_now.block);
        });
        is_in = a.1;
      }

-- ---- a text is put in the place of another one, whose block is given back

abbrev pub given_of : Option ℕ → Heap → Heap
given_of None heap = heap
given_of (Some k) heap = given heap k

module _ {B : Type 0} (w : World) (l : Location) (new : Value) (x : B) (after : World) where
  abbrev old : Value
  old = load w l

  abbrev put_world : World
  put_world = store w l new

  pub record Replaced : Type 0 where
    pub live : is_there w l ≡ true
    pub seen : is_seen w l ≡ true
    pub alike : AreAlike after (record put_world { heap = given_of (block_of old) put_world.heap })

  nothing : {C : Type 0} → None ≡ Some after → C
  nothing e = absurd (none-some after e)

  abbrev pushed_world : World
  pushed_world = pushed put_world old

  abbrev hand_at : Location
  hand_at = at_base (InHand (length put_world.hand))

  abbrev ending_value : Value
  ending_value = load pushed_world hand_at

  ending_is : ending_value ≡ old
  ending_is = ap hand_value (get_here put_world.hand old)

  abbrev vacant_world : World
  vacant_world = store pushed_world hand_at Vacant

  vacant_hand : vacant_world.hand ≡ put_world.hand ++ Vacant ∷ []
  vacant_hand = set_end put_world.hand old Vacant

  freed_heap : (z : World) (k : ℕ) (o : Option Block) → block_at z.heap k ≡ o → (freed z k o).heap ≡ given z.heap k
  freed_heap z k None e = sym (ap (without z.heap k) e)
  freed_heap z k (Some b) e = refl

  freed_frames : (z : World) (k : ℕ) (o : Option Block) → (freed z k o).frames ≡ z.frames
  freed_frames z k None = refl
  freed_frames z k (Some b) = refl

  freed_hand : (z : World) (k : ℕ) (o : Option Block) → (freed z k o).hand ≡ z.hand
  freed_hand z k None = refl
  freed_hand z k (Some b) = refl

  abbrev Target : Option ℕ → World
  Target q = record put_world { heap = given_of q put_world.heap }

  no_hand : (hand : List Value) → hand ≡ put_world.hand ++ Vacant ∷ [] → take (length hand - 1) hand ≡ put_world.hand
  no_hand hand e = ap (λ h. take (length h - 1) h) e ∙ take_front put_world.hand Vacant

  popped_alike : (q : Option ℕ) → answered (perform ((frees q >> does Pops) >> give x) vacant_world) ≡ Some after → AreAlike after (Target q)
  popped_alike None h =
      subst (λ a. AreAlike a (Target None)) (same_Some (popped vacant_world) after h)
      (record { heap = refl; frames = refl; hand = no_hand vacant_world.hand vacant_hand })
  popped_alike (Some k) h = by (is_live vacant_world k) h
    where
      gone : World
      gone = freed vacant_world k (block_at vacant_world.heap k)

      by : (b : Bool) → answered (perform ((unless_gone b (does (Frees k)) >> does Pops) >> give x) vacant_world) ≡ Some after →
          AreAlike after (Target (Some k))
      by true h =
          subst (λ a. AreAlike a (Target (Some k))) (same_Some (popped (freed vacant_world k (block_at vacant_world.heap k))) after h) (record {
            heap = freed_heap vacant_world k (block_at vacant_world.heap k) refl;
            frames = freed_frames vacant_world k (block_at vacant_world.heap k);
            hand = no_hand (freed vacant_world k (block_at vacant_world.heap k)).hand
                (freed_hand vacant_world k (block_at vacant_world.heap k) ∙ vacant_hand);
          })
      by false h = nothing h

  abbrev act : Deed (Unit {0})
  act = sets l new >> given_up block old

  abbrev left : Deed (Unit {0})
  left = costs (8 + length_of ending_value) (sets hand_at Vacant >> frees (block_of ending_value))

  pub replaced_done : answered (perform (replaced block l new >> give x) w) ≡ Some after → Replaced
  replaced_done h =
      by_seen (is_seen w l) refl (sym (behind_answers [] 8 (perform (unless_gone (is_seen w l) act >> give x) w)) ∙ h)
    where
      by_ended : (b : Bool) (own : Bool) → answered (perform ((unless_gone b (unless_gone own left) >> does Pops) >> give x) pushed_world) ≡ Some after
          → AreAlike after (Target (block_of old))
      by_ended true true h =
          subst (λ q. AreAlike after (Target q)) (ap block_of ending_is)
          (popped_alike (block_of ending_value)
          (sym (behind_answers [] (8 + length_of ending_value) (perform ((frees (block_of ending_value) >> does Pops) >> give x) vacant_world)) ∙ h))
      by_ended true false h = nothing h
      by_ended false own h = nothing h

      by_there : (b : Bool) → answered (perform ((unless_gone b (does (Stores l new)) >> given_up block old) >> give x) w) ≡ Some after
          → AreAlike after (Target (block_of old))
      by_there true h = by_ended (is_seen pushed_world hand_at) (is_handle ending_value) h
      by_there false h = nothing h

      there_of : (b : Bool) → answered (perform ((unless_gone b (does (Stores l new)) >> given_up block old) >> give x) w) ≡ Some after → b ≡ true
      there_of true h = refl
      there_of false h = nothing h

      by_seen : (b : Bool) → is_seen w l ≡ b → answered (perform (unless_gone b act >> give x) w) ≡ Some after → Replaced
      by_seen true e h = record { live = there_of (is_there w l) h; seen = e; alike = by_there (is_there w l) h }
      by_seen false e h = nothing h
