-- Walks don't end the run but for want of heap; ends take no block.
use Rattle.std.proofs.Common.{◌≡◌, ℕ, zero, suc, ◌+◌, ◌*◌, Bool, true, false, Option, Some, None, refl, sym, ap, ◌∙◌}
use Rattle.std.proofs.lemmas.Bool.{false≢true}
use Rattle.nim_types.specs.Forms.{Form, plain, reference, block, elements, row, parts, resource, wrapped, Forms, no_forms, forms, of_some, hooked, hooked_any}
use Rattle.nim_types.specs.Forms.{size}
use Rattle.nim_meaning.specs.Heap.{Contents, Elements}
use Rattle.nim_meaning.specs.Values.{Value, Vacant, Location, block_of, is_handle, item_of, deeper, repeated, length_of, vacant, bytes}
use Rattle.nim_meaning.specs.State.{World, load, text_of, is_seen, is_full_at, is_there, is_live}
use Rattle.nim_meaning.specs.Deeds.{Stores, Pops, Refills, Frees, Deed, ◌>>=◌, ◌>>◌, give, branch, costs, does, unless_gone, sees, takes as takes_all, sets}
use Rattle.nim_meaning.specs.Deeds.{frees, refills}
use Rattle.nim_meaning.specs.Lifted.{Walk, each_part, walk, walk_all, each_element, fresh, fresh_text, left_vacant, bits, copied_elements}
use Rattle.nim_meaning.specs.Lifted.{ending, ends_at, in_hand, given_up, copying, copied, replaced, sunk, sinking, assigning}
use Rattle.hook_lifting.specs.declared.lifted.Hook.{Hook}
use Rattle.hook_lifting.specs.declared.lifted.Hook.TheVariants.{Copies, Assigns, Sinks, Ends}
use Rattle.hook_lifting.specs.Lifting.{walk_of}
use Rattle.hook_lifting.proofs.Deeds.{Tame, tame_then}

-- whether a hook may take blocks
abbrev pub takes_blocks : Hook → Bool
takes_blocks Ends = false
takes_blocks hook = true

module _ (takes : Bool) where
  abbrev Ok : Deed (Unit {0}) → Type 0
  Ok deed = Tame takes (λ u. Unit {0}) deed

  pub both : (deed rest : Deed (Unit {0})) → Ok deed → Ok rest → Ok (deed >> rest)
  both deed rest h g = tame_then takes _ _ deed (λ x. rest) h (λ x ok. g)

  ok_branch : (b : Bool) (holds fails : Deed (Unit {0})) → Ok holds → Ok fails → Ok (branch b holds fails)
  ok_branch true holds fails h g = h
  ok_branch false holds fails h g = g

  -- ---- what is looked at may be gone

  abbrev Answering : {A : Type 0} → (A → Type 0) → Deed A → Type 0
  Answering Q deed = Tame takes Q deed

  ok_gone : {A : Type 0} (Q : A → Type 0) (there : Bool) (deed : Deed A) → Answering Q deed → Answering Q (unless_gone there deed)
  ok_gone Q true deed h = h
  ok_gone Q false deed h = tt

  pub ok_sees : {A : Type 0} (Q : A → Type 0) (location : Location) (go : World → Value → Deed A) →
      ((world : World) (v : Value) → Answering Q (go world v)) → Answering Q (sees location go)
  ok_sees Q location go h = λ world. ok_gone Q (is_seen world location) (go world (load world location)) (h world (load world location))

  ok_takes : {A : Type 0} (Q : A → Type 0) (location : Location) (go : World → Value → Deed A) →
      ((world : World) (v : Value) → Answering Q (go world v)) → Answering Q (takes_all location go)
  ok_takes Q location go h = λ world. ok_gone Q (is_full_at world location) (go world (load world location)) (h world (load world location))

  pub ok_sets : (location : Location) (v : Value) → Ok (sets location v)
  ok_sets location v = λ world. ok_gone (λ u. Unit {0}) (is_there world location) (does (Stores location v)) tt

  ok_frees : (k : Option ℕ) → Ok (frees k)
  ok_frees None = tt
  ok_frees (Some k) = λ world. ok_gone (λ u. Unit {0}) (is_live world k) (does (Frees k)) tt

  pub ok_refills : (k : Option ℕ) (contents : Contents) → Ok (refills k contents)
  ok_refills None contents = tt
  ok_refills (Some k) contents = λ world. ok_gone (λ u. Unit {0}) (is_live world k) (does (Refills k contents)) tt

  pub ok_vacated : (location : Location) (v : Value) → Ok (sets location Vacant >> frees (block_of v))
  ok_vacated location v = both (sets location Vacant) (frees (block_of v)) (ok_sets location Vacant) (ok_frees (block_of v))

  pub ok_left : (bytes : ℕ) (location : Location) (v : Value) → Ok (left_vacant bytes location v)
  ok_left bytes location v =
      ok_gone (λ u. Unit {0}) (is_handle v) (costs bytes (sets location Vacant >> frees (block_of v))) (ok_vacated location v)

  -- a value comes to a location and is given on
  pub ok_put : (Q : Value → Type 0) (location : Location) (v answer : Value) → Q answer → Answering Q (sets location v >> give answer)
  ok_put Q location v answer h = tame_then takes (λ u. Unit {0}) Q (sets location v) (λ u. give answer) (ok_sets location v) (λ u ok. h)

  ok_bits : (to from : Location) → Ok (bits to from)
  ok_bits to from = ok_takes (λ u. Unit {0}) from (λ world v. costs (bytes v) (sets to v)) (λ world v. ok_sets to v)

  -- ---- part by part

  abbrev Each : ((to from : Location) → Deed (Unit {0})) → Type 0
  Each act = (to from : Location) → Ok (act to from)

  record OkWalk (w : Walk) : Type 0 where
    plainly : Each w.plainly
    text : Each w.text
    sequence : (of : Form) (element : (to from : Location) → Deed (Unit {0})) → Each element → Each (w.sequence of element)

  ok_parts : (n : ℕ) (act : (to from : Location) → Deed (Unit {0})) → Each act → (i : ℕ) → Each (each_part n act i)
  ok_parts zero act h i to from = tt
  ok_parts (suc n) act h i to from = both (act (deeper to i) (deeper from i)) _ (h _ _) (ok_parts n act h (suc i) to from)

  pub ok_elements : (n : ℕ) (act : (to from : Location) → Deed (Unit {0})) → Each act → (i : ℕ) (v : Value) (to : Location) (w : Value) (from : Location) →
      Ok (each_element n act i v to w from)
  ok_elements zero act h i v to w from = tt
  ok_elements (suc n) act h i v to w from =
      both (act (item_of v to i) (item_of w from i)) _ (h _ _) (ok_elements n act h (suc i) v to w from)

  mutual
    ok_walk : (w : Walk) → OkWalk w → (f : Form) → Each (walk w f)
    ok_walk w h plain to from = h.plainly to from
    ok_walk w h reference to from = tt
    ok_walk w h block to from = h.text to from
    ok_walk w h (elements f) to from = h.sequence f (walk w f) (ok_walk w h f) to from
    ok_walk w h (row n f) to from =
        ok_branch (of_some n (hooked f)) _ _ (ok_parts n (walk w f) (ok_walk w h f) 0 to from) (h.plainly to from)
    ok_walk w h (parts fs) to from = ok_branch (hooked_any fs) _ _ (ok_walk_all w h fs 0 to from) (h.plainly to from)
    ok_walk w h (resource fs) to from = tt
    ok_walk w h (wrapped f) to from = ok_walk w h f to from

    ok_walk_all : (w : Walk) → OkWalk w → (fs : Forms) (i : ℕ) → Each (walk_all w fs i)
    ok_walk_all w h no_forms i to from = tt
    ok_walk_all w h (forms f fs) i to from =
        both (walk w f (deeper to i) (deeper from i)) _ (ok_walk w h f _ _) (ok_walk_all w h fs (suc i) to from)

  ok_ending : OkWalk ending
  ok_ending = record {
    plainly = λ to from. tt;
    text = λ to from. ok_sees (λ u. Unit {0}) to (λ world v. left_vacant (8 + length_of v) to v) (λ world v. ok_left (8 + length_of v) to v);
    sequence = λ of element h to from.
        ok_sees (λ u. Unit {0}) to (λ world v. each_element (length_of v) element 0 v to v to >> left_vacant (8 + length_of v * size of) to v)
        (λ world v. both (each_element (length_of v) element 0 v to v to) (left_vacant (8 + length_of v * size of) to v)
        (ok_elements (length_of v) element h 0 v to v to) (ok_left (8 + length_of v * size of) to v));
  }

  pub ok_ends : (f : Form) → Each (walk ending f)
  ok_ends f = ok_walk ending ok_ending f

abbrev Answer : {A : Type 0} → Deed A → Type 0
Answer deed = Tame true (λ x. Unit {0}) deed

ok_fresh : (n bytes : ℕ) (contents : Contents) → Answer (fresh n bytes contents)
ok_fresh zero bytes contents = tt
ok_fresh (suc n) bytes contents = λ world. (refl, λ k. tt)

ok_copying : OkWalk true copying
ok_copying = record {
  plainly = ok_bits true;
  text = λ to from. ok_sees true (λ u. Unit {0}) from (λ world v. costs 8 (fresh_text (text_of world v)) >>= sets to)
      (λ world v. tame_then true (λ x. Unit {0}) (λ x. Unit {0}) (fresh_text (text_of world v)) (sets to) (ok_fresh _ _ _) (λ w ok. ok_sets true to w));
  sequence = λ of element h to from. ok_sees true (λ u. Unit {0}) from (λ world w. costs 8 (copied_elements of element to w from))
      (λ world w.
      tame_then true (λ x. Unit {0}) (λ x. Unit {0}) (fresh (length_of w) (length_of w * size of) (Elements (repeated (length_of w) (vacant of))))
      (λ v. sets to v >> each_element (length_of w) element 0 v to w from) (ok_fresh _ _ _)
      (λ v ok. both true (sets to v) (each_element (length_of w) element 0 v to w from) (ok_sets true to v)
      (ok_elements true (length_of w) element h 0 v to w from)));
}

ok_copied : (f : Form) (from : Location) → Answer (copied f from)
ok_copied f from = λ world. tame_then true (λ x. Unit {0}) (λ x. Unit {0}) (walk copying f (in_hand world) from) _
    (ok_walk true copying ok_copying f (in_hand world) from)
    (λ u ok. ok_takes true (λ x. Unit {0}) (in_hand world) (λ after new. does Pops >> give new) (λ after new. tt))

ok_given_up : (f : Form) (v : Value) → Answer (given_up f v)
ok_given_up f v = λ world. both true (ends_at f (in_hand world)) _ (ok_ends true f (in_hand world) (in_hand world)) tt

ok_replaced : (f : Form) (to : Location) (v : Value) → Answer (replaced f to v)
ok_replaced f to v = ok_sees true (λ u. Unit {0}) to (λ world old. sets to v >> given_up f old)
    (λ world old. both true (sets to v) (given_up f old) (ok_sets true to v) (ok_given_up f old))

ok_sunk : (f : Form) → Each true (sunk f)
ok_sunk f to from =
    ok_sees true (λ u. Unit {0}) to (λ world old. sees from (λ world new. sets to new >> (sets from old >> ends_at f from)))
    (λ world old. ok_sees true (λ u. Unit {0}) from (λ world new. sets to new >> (sets from old >> ends_at f from))
    (λ world new. both true (sets to new) (sets from old >> ends_at f from) (ok_sets true to new)
    (both true (sets from old) (ends_at f from) (ok_sets true from old) (ok_ends true f from from))))

ok_sinking : OkWalk true sinking
ok_sinking = record {
  plainly = ok_bits true;
  text = ok_sunk block;
  sequence = λ of element h. ok_sunk (elements of);
}

ok_assigning : OkWalk true assigning
ok_assigning = record {
  plainly = ok_bits true;
  text = λ to from. tame_then true (λ x. Unit {0}) (λ x. Unit {0}) (copied block from) _ (ok_copied block from) (λ v ok. ok_replaced block to v);
  sequence = λ of element h to from. tame_then true (λ x. Unit {0}) (λ x. Unit {0}) (copied (elements of) from) _ (ok_copied (elements of) from)
      (λ v ok. ok_replaced (elements of) to v);
}

pub ok_hook : (hook : Hook) (f : Form) (to from : Location) → Tame (takes_blocks hook) (λ u. Unit {0}) (walk (walk_of hook) f to from)
ok_hook Copies f = ok_walk true copying ok_copying f
ok_hook Assigns f = ok_walk true assigning ok_assigning f
ok_hook Sinks f = ok_walk true sinking ok_sinking f
ok_hook Ends f = ok_ends false f

-- ---- what has no hooks needs no end

pub ends_nothing : (f : Form) → hooked f ≡ false → (to from : Location) → walk ending f to from ≡ give tt
ends_nothing plain e to from = refl
ends_nothing reference e to from = absurd (false≢true (sym e))
ends_nothing block e to from = absurd (false≢true (sym e))
ends_nothing (elements f) e to from = absurd (false≢true (sym e))
ends_nothing (row n f) e to from = ap (λ b. branch b (each_part n (walk ending f) 0 to from) (give tt)) e
ends_nothing (parts fs) e to from = ap (λ b. branch b (walk_all ending fs 0 to from) (give tt)) e
ends_nothing (resource fs) e to from = absurd (false≢true (sym e))
ends_nothing (wrapped f) e to from = ends_nothing f e to from

pub no_ends : (n : ℕ) (f : Form) → hooked f ≡ false → (i : ℕ) (v : Value) (to : Location) (w : Value) (from : Location) →
    each_element n (walk ending f) i v to w from ≡ give tt
no_ends zero f e i v to w from = refl
no_ends (suc n) f e i v to w from =
    ap (λ (d : Deed (Unit {0})). d >> each_element n (walk ending f) (suc i) v to w from) (ends_nothing f e (item_of v to i) (item_of w from i))
    ∙ no_ends n f e (suc i) v to w from
