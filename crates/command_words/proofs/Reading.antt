-- Reading word by word finds the arguments that the words give, and no others.
use Rattle.std.proofs.Common.{◌≡◌, ℕ, false, ◌≤◌, List, [], ◌∷◌, ◌++◌, length, Option, Some, None, refl, sym, ap, ap₂, ◌∙◌}
use Rattle.std.proofs.Common.{subst, arith, codes, option_and_then, append_assoc, append-nil, length-append}
use Rattle.command_words.specs.Command.{IsNumber, Arguments, only_places, no_arguments, Sets, sets_heap, sets_steps, is_option, AreArguments, none}
use Rattle.command_words.specs.Command.{behind, place, joined, apart}
use Rattle.command_words.specs.Walk.{number, name_of, Kind, end, positional, named, valued, unknown, kind_of, one_more, with_places, with_place}
use Rattle.command_words.specs.Walk.{with_heap, with_steps, with_value, Line, leads, read_kind, walk, ended}
use Rattle.command_words.specs.Walk.{arguments}
use Rattle.command_words.proofs.Spelling.{number_is, number_said, KindIs, kind_is, place_kind, named_kind, valued_kind}
use Rattle.command_words.specs.declared.arguments.TheConstants.{HEAP_LEAST, HEAP_MOST, STEPS_LEAST, STEPS_MOST}
use Rattle.command_words.specs.declared.word.Key.{Key}
use Rattle.command_words.specs.declared.word.Key.TheVariants.{Heap, Steps}
use Rattle.command_words.specs.declared.arguments.Next.{Next}
use Rattle.command_words.specs.declared.arguments.Next.TheVariants.{Any, Value, Place}

-- ---- what was given before and what the rest gives

-- one of the two at most is there
data Either : Option ℕ → Option ℕ → Option ℕ → Type 0 where
  before : (a : Option ℕ) → Either a None a
  after : (b : Option ℕ) → Either None b b

record Joins (given rest all : Arguments) : Type 0 where
  places : all.places ≡ given.places ++ rest.places
  heap : Either given.heap rest.heap all.heap
  steps : Either given.steps rest.steps all.steps

-- what the words give where this is next
abbrev Gives : Next → List (List ℕ) → Arguments → Type 0
Gives Any words rest = AreArguments words rest
Gives (Value key) words rest =
    (value : List ℕ) × (words' : List (List ℕ)) × (others : Arguments) × (words ≡ value ∷ words')
    × Sets (name_of key) value others rest × AreArguments words' others
Gives Place words rest = rest ≡ only_places words

abbrev Reads : Next → Arguments → List (List ℕ) → Option Arguments
Reads next given words = option_and_then ended (walk words (record { next = next; given = given }))

abbrev After : List (List ℕ) → Option Line → Option Arguments
After words line = option_and_then ended (option_and_then (walk words) line)

same_arguments : (g h : Arguments) → g.places ≡ h.places → g.heap ≡ h.heap → g.steps ≡ h.steps → g ≡ h
same_arguments g h e f i =
    let first : g ≡ record g { places = h.places } = ap (λ p. record g { places = p }) e in
    let second : record g { places = h.places } ≡ record h { steps = g.steps } = ap (λ a. record { places = h.places; heap = a; steps = g.steps }) f in
    let third : record h { steps = g.steps } ≡ h = ap (λ a. record h { steps = a }) i in
    first ∙ second ∙ third

joins_nothing : (given : Arguments) → Joins given no_arguments given
joins_nothing given = record { places = sym (append-nil given.places); heap = before given.heap; steps = before given.steps }

nothing_of : (a b c : Option ℕ) → Either a b c → b ≡ None → c ≡ a
nothing_of a b c (before d) e = refl
nothing_of a b c (after d) e = e

joins_places : (given all : Arguments) (places : List (List ℕ)) → Joins given (only_places places) all → all ≡ record given { places = given.places ++ places }
joins_places given all places h =
    same_arguments all (record given { places = given.places ++ places }) h.places (nothing_of _ _ _ h.heap refl) (nothing_of _ _ _ h.steps refl)

-- ---- complete

abbrev Few : Arguments → Type 0
Few given = length given.places ≤ 2

more_places : (word : List ℕ) (places rest : List (List ℕ)) → length (places ++ word ∷ rest) ≤ 2 → one_more word places ≡ Some (places ++ word ∷ [])
more_places word [] rest h = refl
more_places word (first ∷ []) rest h = refl
more_places word (first ∷ second ∷ places) rest h =
    let e = length-append places (word ∷ rest) in absurd (omega arith)

place_fits : (word : List ℕ) (given : Arguments) (rest : List (List ℕ)) → length (given.places ++ word ∷ rest) ≤ 2 →
    with_place word given ≡ Some (record given { places = given.places ++ word ∷ [] })
place_fits word given rest h = ap (with_places given) (more_places word given.places rest h)

joins_place : (word : List ℕ) (given rest all : Arguments) → Joins given (record rest { places = word ∷ rest.places }) all →
    Joins (record given { places = given.places ++ word ∷ [] }) rest all
joins_place word given rest all h =
    record { places = h.places ∙ sym (append_assoc given.places (word ∷ []) rest.places); heap = h.heap; steps = h.steps }

places_read : (words : List (List ℕ)) (given : Arguments) → length (given.places ++ words) ≤ 2 →
    Reads Place given words ≡ Some (record given { places = given.places ++ words })
places_read [] given h = ap (λ l. Some (record given { places = l })) (sym (append-nil given.places))
places_read (word ∷ words) given h =
    ap (λ o. After words (leads Place o)) (place_fits word given words h)
    ∙ places_read words (record given { places = given.places ++ word ∷ [] })
    (subst (λ (l : List (List ℕ)). length l ≤ 2) (sym (append_assoc given.places (word ∷ []) words)) h)
    ∙ ap (λ l. Some (record given { places = l })) (append_assoc given.places (word ∷ []) words)

-- an option that the rest has isn't given before
taken_first : (a : Option ℕ) (n : ℕ) (c : Option ℕ) → Either a (Some n) c → (a ≡ None) × (c ≡ Some n)
taken_first a n c (after b) = (refl, refl)

heap_fits : (given : Arguments) (text : List ℕ) (n : ℕ) → IsNumber HEAP_LEAST HEAP_MOST text n → given.heap ≡ None →
    with_value Heap text given ≡ Some (record given { heap = Some n })
heap_fits given text n h e = ap₂ (λ a b. with_heap given a b) e (number_said HEAP_LEAST HEAP_MOST text n h)

steps_fits : (given : Arguments) (text : List ℕ) (n : ℕ) → IsNumber STEPS_LEAST STEPS_MOST text n → given.steps ≡ None →
    with_value Steps text given ≡ Some (record given { steps = Some n })
steps_fits given text n h e = ap₂ (λ a b. with_steps given a b) e (number_said STEPS_LEAST STEPS_MOST text n h)

later : (b c : Option ℕ) (n : ℕ) → b ≡ None → c ≡ Some n → Either (Some n) b c
later b c n e f = subst (λ (o : Option ℕ). Either (Some n) o c) (sym e) (subst (λ (o : Option ℕ). Either (Some n) None o) (sym f) (before (Some n)))

-- an option that is set: its key, and what it adds to what was given before
record Adds (name value : List ℕ) (given others all : Arguments) : Type 0 where
  key : Key
  named_so : name ≡ name_of key
  now : Arguments
  fits : with_value key value given ≡ Some now
  joins : Joins now others all

adds : (name value : List ℕ) (given others rest all : Arguments) → Sets name value others rest → Joins given rest all → Adds name value given others all
adds name value given others rest all (sets_heap {number = n} others' h e) j =
    let first = taken_first _ _ _ j.heap in
    record {
      key = Heap;
      named_so = refl;
      now = record given { heap = Some n };
      fits = heap_fits given value n h first.0;
      joins = record { places = j.places; heap = later _ _ n e first.1; steps = j.steps };
    }
adds name value given others rest all (sets_steps {number = n} others' h e) j =
    let first = taken_first _ _ _ j.steps in
    record {
      key = Steps;
      named_so = refl;
      now = record given { steps = Some n };
      fits = steps_fits given value n h first.0;
      joins = record { places = j.places; heap = j.heap; steps = later _ _ n e first.1 };
    }

complete : (words : List (List ℕ)) (rest : Arguments) → AreArguments words rest → (given all : Arguments) → Joins given rest all → Few all →
    Reads Any given words ≡ Some all
complete words rest none given all j few =
    ap (λ g. Some g) (sym (joins_places given all [] j ∙ ap (λ l. record given { places = l }) (append-nil given.places)))
complete words rest (behind places) given all j few =
    places_read places given (subst (λ (l : List (List ℕ)). length l ≤ 2) j.places few)
    ∙ ap (λ g. Some g) (sym (joins_places given all places j))
complete words rest (place {word = word} {words = words'} others e h) given all j few =
    ap (λ k. After words' (read_kind k word given)) (place_kind word e)
    ∙ ap (λ o. After words' (leads Any o)) (place_fits word given others.places (subst (λ (l : List (List ℕ)). length l ≤ 2) j.places few))
    ∙ complete words' others h (record given { places = given.places ++ word ∷ [] }) all (joins_place word given others all j) few
complete words rest (joined {name = name} {value = value} {words = words'} {others = others} s h) given all j few =
    let a = adds name value given others rest all s j in
    let word = name ++ codes "=" ++ value in
    ap (λ k. After words' (read_kind k word given)) (ap (λ n. kind_of (n ++ codes "=" ++ value)) a.named_so ∙ valued_kind a.key value)
    ∙ ap (λ o. After words' (leads Any o)) a.fits
    ∙ complete words' others h a.now all a.joins few
complete words rest (apart {name = name} {value = value} {words = words'} {others = others} s h) given all j few =
    let a = adds name value given others rest all s j in
    ap (λ k. After (value ∷ words') (read_kind k name given)) (ap kind_of a.named_so ∙ named_kind a.key)
    ∙ ap (λ o. After words' (leads Any o)) a.fits
    ∙ complete words' others h a.now all a.joins few

-- ---- sound

record Found (next : Next) (words : List (List ℕ)) (given all : Arguments) : Type 0 where
  rest : Arguments
  gives : Gives next words rest
  joins : Joins given rest all

abbrev Sound : List (List ℕ) → Type 0
Sound words = (next : Next) (given all : Arguments) → Reads next given words ≡ Some all → Found next words given all

-- what was put in
record Placed (word : List ℕ) (given now : Arguments) : Type 0 where
  places : now.places ≡ given.places ++ word ∷ []
  heap : now.heap ≡ given.heap
  steps : now.steps ≡ given.steps

more_of : (word : List ℕ) (places now : List (List ℕ)) → one_more word places ≡ Some now → now ≡ places ++ word ∷ []
more_of word [] now e = cc
more_of word (first ∷ []) now e = cc
more_of word (first ∷ second ∷ places) now e = cc

placed_of : (word : List ℕ) (given now : Arguments) (more : Option (List (List ℕ))) → one_more word given.places ≡ more →
    with_places given more ≡ Some now → Placed word given now
placed_of word given now None e h = absurd (let clash : None ≡ Some now = h in cc)
placed_of word given now (Some places) e h =
    let f : record given { places = places } ≡ now = cc in
    record {
      places = ap (λ (g : Arguments). g.places) (sym f) ∙ more_of word given.places places e;
      heap = ap (λ (g : Arguments). g.heap) (sym f);
      steps = ap (λ (g : Arguments). g.steps) (sym f);
    }

placed : (word : List ℕ) (given now : Arguments) → with_place word given ≡ Some now → Placed word given now
placed word given now h = placed_of word given now _ refl h

either_like : (a b c d : Option ℕ) → a ≡ b → Either a c d → Either b c d
either_like a b c d e h = subst (λ (o : Option ℕ). Either o c d) e h

joins_placed : (word : List ℕ) (given now rest all : Arguments) → Placed word given now → Joins now rest all →
    Joins given (record rest { places = word ∷ rest.places }) all
joins_placed word given now rest all p j = record {
  places = j.places ∙ ap (λ l. l ++ rest.places) p.places ∙ append_assoc given.places (word ∷ []) rest.places;
  heap = either_like _ _ _ _ p.heap j.heap;
  steps = either_like _ _ _ _ p.steps j.steps;
}

-- a value that was put in: the rest doesn't have it, and with it
record Valued (key : Key) (value : List ℕ) (given rest all : Arguments) : Type 0 where
  with_it : Arguments
  sets : Sets (name_of key) value rest with_it
  joins : Joins given with_it all

given_first : (n : ℕ) (b c : Option ℕ) → Either (Some n) b c → (b ≡ None) × (c ≡ Some n)
given_first n b c (before a) = (refl, refl)

now_there : (c : Option ℕ) (a : Option ℕ) (n : ℕ) → a ≡ None → c ≡ Some n → Either a (Some n) c
now_there c a n e f = subst (λ (o : Option ℕ). Either o (Some n) c) (sym e) (subst (λ (o : Option ℕ). Either None (Some n) o) (sym f) (after (Some n)))

heap_of : (value : List ℕ) (given now rest all : Arguments) (had number' : Option ℕ) → given.heap ≡ had → number HEAP_LEAST HEAP_MOST value ≡ number' →
    with_heap given had number' ≡ Some now → Joins now rest all → Valued Heap value given rest all
heap_of value given now rest all (Some n) number' e f h j = absurd (let clash : None ≡ Some now = h in cc)
heap_of value given now rest all None None e f h j = absurd (let clash : None ≡ Some now = h in cc)
heap_of value given now rest all None (Some n) e f h j =
    let is : now ≡ record given { heap = Some n } = cc in
    let k = subst (λ (g : Arguments). Joins g rest all) is j in
    let first = given_first n rest.heap all.heap k.heap in
    record {
      with_it = record rest { heap = Some n };
      sets = sets_heap rest (number_is HEAP_LEAST HEAP_MOST value n f) first.0;
      joins = record { places = k.places; heap = now_there all.heap given.heap n e first.1; steps = k.steps };
    }

steps_of : (value : List ℕ) (given now rest all : Arguments) (had number' : Option ℕ) → given.steps ≡ had →
    number STEPS_LEAST STEPS_MOST value ≡ number' → with_steps given had number' ≡ Some now → Joins now rest all → Valued Steps value given rest all
steps_of value given now rest all (Some n) number' e f h j = absurd (let clash : None ≡ Some now = h in cc)
steps_of value given now rest all None None e f h j = absurd (let clash : None ≡ Some now = h in cc)
steps_of value given now rest all None (Some n) e f h j =
    let is : now ≡ record given { steps = Some n } = cc in
    let k = subst (λ (g : Arguments). Joins g rest all) is j in
    let first = given_first n rest.steps all.steps k.steps in
    record {
      with_it = record rest { steps = Some n };
      sets = sets_steps rest (number_is STEPS_LEAST STEPS_MOST value n f) first.0;
      joins = record { places = k.places; heap = k.heap; steps = now_there all.steps given.steps n e first.1 };
    }

valued_of : (key : Key) (value : List ℕ) (given now rest all : Arguments) → with_value key value given ≡ Some now → Joins now rest all →
    Valued key value given rest all
valued_of Heap value given now rest all h j = heap_of value given now rest all _ _ refl refl h j
valued_of Steps value given now rest all h j = steps_of value given now rest all _ _ refl refl h j

-- where something was put in
goes : {P : Type 0} (words : List (List ℕ)) (next : Next) (o : Option Arguments) (all : Arguments) → After words (leads next o) ≡ Some all →
    ((now : Arguments) → o ≡ Some now → Reads next now words ≡ Some all → P) → P
goes words next None all h f = absurd (let clash : None ≡ Some all = h in cc)
goes words next (Some now) all h f = f now refl h

sound_place : (word : List ℕ) (words : List (List ℕ)) → Sound words → (given all : Arguments) → is_option word ≡ false →
    After words (leads Any (with_place word given)) ≡ Some all → Found Any (word ∷ words) given all
sound_place word words ih given all e h =
    goes words Any (with_place word given) all h (λ now p g.
    let found = ih Any now all g in
    record {
      rest = record found.rest { places = word ∷ found.rest.places };
      gives = place found.rest e found.gives;
      joins = joins_placed word given now found.rest all (placed word given now p) found.joins;
    })

sound_behind : (word : List ℕ) (words : List (List ℕ)) → Sound words → (given all : Arguments) →
    After words (leads Place (with_place word given)) ≡ Some all → Found Place (word ∷ words) given all
sound_behind word words ih given all h =
    goes words Place (with_place word given) all h (λ now p g.
    let found = ih Place now all g in
    record {
      rest = record found.rest { places = word ∷ found.rest.places };
      gives = ap (λ (r : Arguments). record r { places = word ∷ r.places }) found.gives;
      joins = joins_placed word given now found.rest all (placed word given now p) found.joins;
    })

sound_value : (key : Key) (value : List ℕ) (words : List (List ℕ)) → Sound words → (given all : Arguments) →
    After words (leads Any (with_value key value given)) ≡ Some all → Found (Value key) (value ∷ words) given all
sound_value key value words ih given all h =
    goes words Any (with_value key value given) all h (λ now p g.
    let found = ih Any now all g in
    let v = valued_of key value given now found.rest all p found.joins in
    record { rest = v.with_it; gives = (value, words, found.rest, refl, v.sets, found.gives); joins = v.joins })

sound_valued : (key : Key) (value : List ℕ) (words : List (List ℕ)) → Sound words → (given all : Arguments) →
    After words (leads Any (with_value key value given)) ≡ Some all → Found Any ((name_of key ++ codes "=" ++ value) ∷ words) given all
sound_valued key value words ih given all h =
    goes words Any (with_value key value given) all h (λ now p g.
    let found = ih Any now all g in
    let v = valued_of key value given now found.rest all p found.joins in
    record { rest = v.with_it; gives = joined v.sets found.gives; joins = v.joins })

named_gives : (key : Key) (words : List (List ℕ)) (rest : Arguments) → Gives (Value key) words rest → AreArguments (name_of key ∷ words) rest
named_gives key words rest h =
    subst (λ (l : List (List ℕ)). AreArguments (name_of key ∷ l) rest) (sym h.3) (apart h.4 h.5)

sound_named : (key : Key) (words : List (List ℕ)) → Sound words → (given all : Arguments) → Reads (Value key) given words ≡ Some all →
    Found Any (name_of key ∷ words) given all
sound_named key words ih given all h =
    let found = ih (Value key) given all h in
    record { rest = found.rest; gives = named_gives key words found.rest found.gives; joins = found.joins }

sound_end : (words : List (List ℕ)) → Sound words → (given all : Arguments) → Reads Place given words ≡ Some all → Found Any (codes "--" ∷ words) given all
sound_end words ih given all h =
    let found = ih Place given all h in
    record {
      rest = found.rest;
      gives = subst (λ (r : Arguments). AreArguments (codes "--" ∷ words) r) (sym found.gives) (behind words);
      joins = found.joins;
    }

sound_kind : (kind : Kind) (word : List ℕ) (words : List (List ℕ)) → KindIs word kind → Sound words → (given all : Arguments) →
    After words (read_kind kind word given) ≡ Some all → Found Any (word ∷ words) given all
sound_kind end word words k ih given all h = subst (λ (w : List ℕ). Found Any (w ∷ words) given all) (sym k) (sound_end words ih given all h)
sound_kind positional word words k ih given all h = sound_place word words ih given all k h
sound_kind (named key) word words k ih given all h = subst (λ (w : List ℕ). Found Any (w ∷ words) given all) (sym k) (sound_named key words ih given all h)
sound_kind (valued key value) word words k ih given all h =
    subst (λ (w : List ℕ). Found Any (w ∷ words) given all) (sym k) (sound_valued key value words ih given all h)
sound_kind unknown word words k ih given all h = absurd (let clash : None ≡ Some all = h in cc)

joins_same : (given all : Arguments) → Some given ≡ Some all → Joins given no_arguments all
joins_same given all h = let e : given ≡ all = cc in subst (λ (g : Arguments). Joins given no_arguments g) e (joins_nothing given)

sound_nothing : Sound []
sound_nothing Any given all h =
    record { rest = no_arguments; gives = none; joins = joins_same given all h }
sound_nothing (Value key) given all h = absurd (let clash : None ≡ Some all = h in cc)
sound_nothing Place given all h =
    record { rest = no_arguments; gives = refl; joins = joins_same given all h }

sound_word : (word : List ℕ) (words : List (List ℕ)) → Sound words → Sound (word ∷ words)
sound_word word words ih Any given all h = sound_kind (kind_of word) word words (kind_is word) ih given all h
sound_word word words ih (Value key) given all h = sound_value key word words ih given all h
sound_word word words ih Place given all h = sound_behind word words ih given all h

sound : (words : List (List ℕ)) → Sound words
sound [] = sound_nothing
sound (word ∷ words) = sound_word word words (sound words)

-- ---- from the beginning

joined_to_nothing : (b c : Option ℕ) → Either None b c → c ≡ b
joined_to_nothing b c (before a) = refl
joined_to_nothing b c (after d) = refl

-- what is read is given
pub arguments_are : (words : List (List ℕ)) (given : Arguments) → arguments words ≡ Some given → AreArguments words given
arguments_are words given h =
    let found = sound words Any no_arguments given h in
    let same =
    same_arguments found.rest given (sym found.joins.places) (sym (joined_to_nothing _ _ found.joins.heap)) (sym (joined_to_nothing _ _ found.joins.steps)) in
    subst (λ (g : Arguments). AreArguments words g) same found.gives

-- what is given is read, where it has two places at most
pub arguments_read : (words : List (List ℕ)) (given : Arguments) → AreArguments words given → length given.places ≤ 2 → arguments words ≡ Some given
arguments_read words given h few =
    complete words given h no_arguments given (record { places = refl; heap = after given.heap; steps = after given.steps }) few
