-- A loop over elements follows what is done with each of them.
use Rattle.std.proofs.Common.{◌≡◌, ◌≢◌, ℕ, zero, suc, ◌+◌, ◌*◌, ◌<◌, ◌≤◌, Bool, true, false, List, [], ◌∷◌, Option, Some, refl, ap, ◌∙◌, arith, le_refl}
use Rattle.std.proofs.Math.Nat.{mul-suc}
use Rattle.std.specs.Prelude.{◌-◌, ℤ, pos, ◌+ℤ◌, int_lt, nat_lt, nat_eq}
use Rattle.std.proofs.lemmas.Bool.{ne_eqb, cond-false, lt-ltb, le-ltb}
use Rattle.nim_meaning.specs.Acts.{branch}
use Rattle.nim_meaning.specs.Values.{Value, Number, number_of, Location}
use Rattle.nim_meaning.specs.State.{World}
use Rattle.nim_meaning.specs.Deeds.{Deed, Answers, perform, ◌>>◌, give, costs}
use Rattle.flat_code.specs.declared.line.Line.TheVariants as L
use Rattle.flat_code.specs.Scene.{Known, Did, Passes, Leaps, Where, Located, Temps, put, with_value, with_place}
use Rattle.flat_code.specs.Lines.{using, using_number, gives, turns_where}
use Rattle.flat_code.specs.Running.{from_label, settled, jumped}
use Rattle.hook_lifting.specs.declared.lifted.Hook.{Hook}
use Rattle.hook_lifting.specs.declared.lifted.LiftedLine.{LiftedLine}
use Rattle.hook_lifting.specs.declared.lifted.LiftedLine.TheVariants as O
use Rattle.hook_lifting.specs.Lifted.{turn_lines, loop_lines}
use Rattle.hook_lifting.specs.Lifting.{hook_deed, does_by, label_of, lines_step}
use Rattle.hook_lifting.proofs.Deeds.{Tame, regrouped}
use Rattle.hook_lifting.specs.Weights.{priced}
use Rattle.hook_lifting.proofs.Follows.{M, Setting, at, scene, LeastDone, Follows, weaker, settles, goes, calls, alike}

-- ---- temporaries

put_other : {A : Type 0} (held : ℕ → Option A) (t : ℕ) (x : A) (u : ℕ) → u ≢ t → put held t x u ≡ held u
put_other held t x u ne = cond-false (nat_eq u t) (Some x) (held u) (ne_eqb u t ne)

-- where the hook works and from where, and values beside a loop's number, are as they were
pub record Keeps (old new : Temps) : Type 0 where
  pub places : (j : ℕ) → j ≤ 1 → new.places j ≡ old.places j
  pub values : (j : ℕ) → 5 ≤ j → new.values j ≡ old.values j

pub keeps_none : (temps : Temps) → Keeps temps temps
keeps_none temps = record { places = λ j le. refl; values = λ j le. refl }

pub keeps_place : {old new : Temps} (t : ℕ) (to : Where) → 2 ≤ t → Keeps old new → Keeps old (with_place t new to)
keeps_place {old} {new} t to le k = record {
  places = λ j less. put_other new.places t to j (λ e. absurd (omega (arith, less, e, le))) ∙ k.places j less;
  values = k.values;
}

pub keeps_number : {old new : Temps} (v : Value) → Keeps old new → Keeps old (with_value 4 new v)
keeps_number {old} {new} v k = record {
  places = k.places;
  values = λ j le. put_other new.values 4 v j (λ e. absurd (omega (arith, le, e))) ∙ k.values j le;
}

-- ---- numbers

next_number : (i : ℕ) → pos i +ℤ pos 1 ≡ pos (suc i)
next_number i = let e : i + 1 ≡ suc i = omega arith in ap (λ n. pos n) e

none_more : (i n : ℕ) → n ≤ i → nat_lt i n ≡ false
none_more i n le = le-ltb i n le

one_more : (i n : ℕ) → i < n → nat_lt i n ≡ true
one_more i n less = lt-ltb i n less

-- the same with so many parts, from one on
abbrev pub each_of : (part : ℕ → Deed (Unit {0})) → (count i : ℕ) → Deed (Unit {0})
each_of part zero i = give tt
each_of part (suc n) i = part i >> each_of part n (suc i)

module _ (g : Setting) (whole : List LiftedLine) (level : ℕ) (hook : Hook) (of : ℕ) (one other : LiftedLine) (k : List LiftedLine)
    (base : Temps) (len : ℕ) (left right : ℕ → Location) where
  abbrev known : Known
  known = g.known

  abbrev turn : List LiftedLine
  turn = turn_lines hook of one other k

  abbrev behind_turns : List LiftedLine
  behind_turns = O.Plain (L.Label 0) ∷ k

  -- what is done with an element
  abbrev pub part : ℕ → Deed (Unit {0})
  part i = hook_deed known hook of (left i) (right i)

  abbrev each : (count i : ℕ) → Deed (Unit {0})
  each n i = each_of part n i

  -- a line leads a temporary to an element
  abbrev pub LeadsTo : LiftedLine → (to : ℕ) → (ℕ → Location) → Type 0
  LeadsTo line to locations =
      (temps : Temps) (world : World) (i : ℕ) → Keeps base temps → temps.values 4 ≡ Some (Number (pos i)) → i < len →
      does_by known (scene level temps world) line ≡ Passes (Answers [] 1 (with_place to temps (Located (locations i))) world)

  -- Each turn weighs 13 without the deed, whose works are so many at least.
  module _ (takes : Bool) (tame : (i : ℕ) → Tame takes (λ u. Unit {0}) (part i)) (net least : ℕ) (paid : 13 ≤ net + g.extra * least)
      (works : (i : ℕ) (world : World) → g.built ≡ true → LeastDone least (perform (part i) world)) (one_weighs : priced g.pace one 1 ≡ 3)
      (other_weighs : priced g.pace other 1 ≡ 3) (counted : base.values 5 ≡ Some (Number (pos len)))
      (one_leads : LeadsTo one 2 left) (other_leads : LeadsTo other 3 right) (back : from_label label_of 1 whole ≡ Some turn)
      (out : from_label label_of 0 turn ≡ Some behind_turns) (p q : ℕ) (rest : Deed (Unit {0}))
      (more : (last : Temps) → Keeps base last → (new : World) → Follows g p q (perform rest new) (at whole level behind_turns last new))
    where
      abbrev here : List LiftedLine → Temps → World → M
      here = at whole level

      abbrev Comes : (p : ℕ) → Deed (Unit {0}) → (world : World) → M → Type 0
      Comes p deed world m = Follows g p q (perform deed world) m

      passed : (line : LiftedLine) (behind : List LiftedLine) (temps now : Temps) (world : World) →
          does_by known (scene level temps world) line ≡ Passes (Answers [] 1 now world) →
          lines_step known (here (line ∷ behind) temps world) ≡ settled label_of (does_by known) [] (here (line ∷ behind) temps world) behind
          (Passes (Answers [] 1 now world))
      passed line behind temps now world e =
          ap (λ did. settled label_of (does_by known) [] (here (line ∷ behind) temps world) behind did) e

      -- the number of a turn, and whether there is a next one
      abbrev counts : Temps → World → Did
      counts temps world = does_by known (scene level temps world) (O.Plain (L.CountTurn 4 5 false 1))

      count_is : (temps : Temps) (world : World) (i : ℕ) (b : Bool) → Keeps base temps → temps.values 4 ≡ Some (Number (pos i)) → nat_lt (suc i) len ≡ b →
          counts temps world ≡ turns_where (scene level temps world) b (with_value 4 temps (Number (pos (suc i)))) 1
      count_is temps world i b keeps at4 is =
          let x = scene level temps world in
          let go : ℤ → ℤ → Did = λ i n. turns_where x (int_lt (i +ℤ pos 1) n) (with_value 4 temps (Number (i +ℤ pos 1))) 1 in
          ap (λ o. using o (λ v. using_number temps 5 (λ n. go (number_of v) n))) at4
          ∙ (ap (λ o. using o (λ v. go (pos i) (number_of v))) (keeps.values 5 (omega arith) ∙ counted)
          ∙ (ap (λ z. turns_where x (int_lt z (pos len)) (with_value 4 temps (Number z)) 1) (next_number i)
          ∙ ap (λ b. turns_where x b (with_value 4 temps (Number (pos (suc i)))) 1) is))

      -- from the beginning of a turn on
      a_turn : (n i : ℕ) → i + suc n ≡ len → (temps : Temps) (world : World) → Keeps base temps → temps.values 4 ≡ Some (Number (pos i)) →
          ((temps : Temps) (new : World) → Keeps base temps → temps.values 4 ≡ Some (Number (pos i)) →
          Comes (2 + (net * n + p)) (each n (suc i) >> rest) new (here (O.Plain (L.CountTurn 4 5 false 1) ∷ behind_turns) temps new)) →
          Comes (net * suc n + p) (each (suc n) i >> rest) world (here turn temps world)
      a_turn n i many temps world keeps at4 next =
          let temps2 = with_place 2 temps (Located (left i)) in
          let temps3 = with_place 3 temps2 (Located (right i)) in
          let keeps3 = keeps_place {new = temps2} 3 (Located (right i)) (omega arith) (keeps_place 2 (Located (left i)) (omega arith) keeps) in
          let behind = O.Plain (L.CountTurn 4 5 false 1) ∷ behind_turns in
          let more = mul-suc net n in
          let one_more = one_weighs in
          let other_more = other_weighs in
          settles (g.extra * least)
          (weaker {p = 1 + (priced g.pace one 1 + (priced g.pace other 1 + (4 + (2 + (net * n + p)))))} {q = q}
          (omega (arith, paid, more, one_more, other_more))
          (le_refl q)
          (goes 1 (here (one ∷ other ∷ O.Hook hook of 2 3 ∷ behind) temps world) refl
          (goes 1 (here (other ∷ O.Hook hook of 2 3 ∷ behind) temps2 world)
          (passed one (other ∷ O.Hook hook of 2 3 ∷ behind) temps temps2 world (one_leads temps world i keeps at4 (omega (arith, many))))
          (goes 1 (here (O.Hook hook of 2 3 ∷ behind) temps3 world)
          (passed other (O.Hook hook of 2 3 ∷ behind) temps2 temps3 world
          (other_leads temps2 world i (keeps_place 2 (Located (left i)) (omega arith) keeps) at4 (omega (arith, many))))
          (alike ((part i >> each n (suc i)) >> rest) (part i >> (each n (suc i) >> rest)) world (regrouped (part i) (λ u. each n (suc i)) (λ u. rest))
          (calls g whole level takes least hook of 2 3 behind temps3 world (part i) (each n (suc i) >> rest) (works i world) refl (tame i)
          (λ new. next temps3 new keeps3 at4)))))))

      -- behind what is done with an element
      next : (n i : ℕ) → i + suc n ≡ len → (temps : Temps) (world : World) → Keeps base temps → temps.values 4 ≡ Some (Number (pos i)) →
          Comes (2 + (net * n + p)) (each n (suc i) >> rest) world (here (O.Plain (L.CountTurn 4 5 false 1) ∷ behind_turns) temps world)
      next zero i many temps world keeps at4 =
          weaker {p = 2 + p} {q = q} (let e : net * 0 ≡ 0 = omega arith in omega (arith, e)) (le_refl q)
          (goes 1 (here behind_turns temps world)
          (ap (λ did. settled label_of (does_by known) [] (here (O.Plain (L.CountTurn 4 5 false 1) ∷ behind_turns) temps world) behind_turns did)
          (count_is temps world i false keeps at4 (none_more (suc i) len (omega (arith, many)))))
          (more temps keeps world))
      next (suc n) i many temps world keeps at4 =
          let now = with_value 4 temps (Number (pos (suc i))) in
          goes 1 (here turn now world)
          (ap (λ did. settled label_of (does_by known) [] (here (O.Plain (L.CountTurn 4 5 false 1) ∷ behind_turns) temps world) behind_turns did)
          (count_is temps world i true keeps at4 (one_more (suc i) len (omega (arith, many))))
          ∙ ap (λ o. jumped (here (O.Plain (L.CountTurn 4 5 false 1) ∷ behind_turns) temps world) now 1 o) back)
          (a_turn n (suc i) (omega (arith, many)) now world (keeps_number (Number (pos (suc i))) keeps) refl
          (next n (suc i) (omega (arith, many))))

      -- from the test of the first number on, up to what comes behind
      test_is : (i : ℕ) (temps : Temps) (world : World) (b : Bool) → Keeps base temps → temps.values 4 ≡ Some (Number (pos i)) → nat_lt i len ≡ b →
          does_by known (scene level temps world) (O.Plain (L.Beyond 4 5 false 0))
          ≡ branch b (gives (scene level temps world) 4 (costs 1 (give (Number (pos i))))) (Leaps 0 1)
      test_is i temps world b keeps at4 is =
          let go : ℤ → ℤ → Did = λ i n. branch (int_lt i n) (gives (scene level temps world) 4 (costs 1 (give (Number i)))) (Leaps 0 1) in
          ap (λ o. using o (λ v. using_number temps 5 (λ n. go (number_of v) n))) at4
          ∙ (ap (λ o. using o (λ v. go (pos i) (number_of v))) (keeps.values 5 (omega arith) ∙ counted)
          ∙ ap (λ b. branch b (gives (scene level temps world) 4 (costs 1 (give (Number (pos i))))) (Leaps 0 1)) is)

      pub test_follows : (i l : ℕ) → l ≡ len - i → (temps : Temps) (world : World) → Keeps base temps → temps.values 4 ≡ Some (Number (pos i)) →
          Comes (1 + (net * l + p)) (each l i >> rest) world (here (O.Plain (L.Beyond 4 5 false 0) ∷ turn) temps world)
      test_follows i zero e temps world keeps at4 =
          weaker {p = 1 + p} {q = q} (let e : net * 0 ≡ 0 = omega arith in omega (arith, e)) (le_refl q)
          (goes 1 (here behind_turns temps world)
          (ap (λ did. settled label_of (does_by known) [] (here (O.Plain (L.Beyond 4 5 false 0) ∷ turn) temps world) turn did)
          (test_is i temps world false keeps at4 (none_more i len (omega (arith, e))))
          ∙ ap (λ o. jumped (here (O.Plain (L.Beyond 4 5 false 0) ∷ turn) temps world) temps 1 o) out)
          (more temps keeps world))
      test_follows i (suc n) e temps world keeps at4 =
          goes 1 (here turn (with_value 4 temps (Number (pos i))) world)
          (ap (λ did. settled label_of (does_by known) [] (here (O.Plain (L.Beyond 4 5 false 0) ∷ turn) temps world) turn did)
          (test_is i temps world true keeps at4 (one_more i len (omega (arith, e)))))
          (a_turn n i (omega (arith, e)) (with_value 4 temps (Number (pos i))) world (keeps_number (Number (pos i)) keeps) refl
          (next n i (omega (arith, e))))

      pub loop_follows : (temps : Temps) (world : World) → Keeps base temps →
          Comes (2 + (net * len + p)) (each len 0 >> rest) world (here (loop_lines hook of one other k) temps world)
      loop_follows temps world keeps =
          let zeroed = with_value 4 temps (Number (pos 0)) in
          weaker {p = 1 + (1 + (net * len + p))} {q = q} (omega arith) (le_refl q)
          (goes 1 (here (O.Plain (L.Beyond 4 5 false 0) ∷ turn) zeroed world) refl
          (test_follows 0 len (omega arith) zeroed world (keeps_number (Number (pos 0)) keeps) refl))
