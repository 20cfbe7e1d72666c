-- Whether something holds, and whether bytes are words and words are the lists of a note.
use Rattle.std.proofs.Common.{◌≡◌, ◌<◌, ◌≤◌, ℕ, zero, suc, ◌+◌, ◌*◌, ◌/◌, ◌%◌, List, [], ◌∷◌, ◌++◌, length, refl, sym, ap, ◌∙◌, append_assoc, ◌⊎◌, inl}
use Rattle.std.proofs.Common.{inr, subst, arith}
use Rattle.std.proofs.lemmas.Bool.{cases_lt, cases_eq}
use Rattle.std.proofs.lemmas.List.{length-append}
use Rattle.std.specs.List.{flat_map}
use Rattle.nim_plan.specs.declared.plan.Act.{Act}
use Rattle.nim_plan.specs.declared.plan.Act.TheVariants.{Copy, Move, Final, Borrow}
use Rattle.rv32_isa.specs.Words.{word_bytes}
use Rattle.elf32.specs.Elf.{words, counted, hook_words, site_words, sink_words, skip_words, act_number}
use Rattle.elf32.proofs.FilesWords.{parts_only, counted_only}
use Rattle.elf32.proofs.Files.{hook_only, site_only, sink_only, skip_only}
use Rattle.elf32.proofs.ItemLists.{length_words}
use Rattle.elf32.proofs.Missing.{act_small}
use Rattle.elf32.proofs.NoteLists.{Fitting}

-- it holds, or it doesn't
pub data Decided (P : Type 0) : Type 0 where
  holds : P → Decided P
  fails : (P → ⊥) → Decided P

pub both : {P Q : Type 0} → Decided P → Decided Q → Decided (P × Q)
both (holds p) (holds q) = holds (p, q)
both (holds p) (fails none) = fails (λ pq. none pq.1)
both (fails none) q = fails (λ pq. none pq.0)

-- what holds where something decided does, and only there
pub carried : {P Q : Type 0} → Decided P → (P → Q) → (Q → P) → Decided Q
carried (holds p) to from = holds (to p)
carried (fails none) to from = fails (λ q. none (from q))

pub at_most : (a b : ℕ) → Decided (a ≤ b)
at_most a b = by (cases_lt b a) where
  by : (b < a) ⊎ (a ≤ b) → Decided (a ≤ b)
  by (inl less) = fails (λ most. omega (arith, less, most))
  by (inr most) = holds most

pub is_below : (a b : ℕ) → Decided (a < b)
is_below a b = by (cases_lt a b) where
  by : (a < b) ⊎ (b ≤ a) → Decided (a < b)
  by (inl less) = holds less
  by (inr most) = fails (λ less. omega (arith, less, most))

pub same_number : (a b : ℕ) → Decided (a ≡ b)
same_number a b = by (cases_eq a b) where
  by : (a ≡ b) ⊎ (a ≡ b → ⊥) → Decided (a ≡ b)
  by (inl same) = holds same
  by (inr other) = fails other

pub same_list : (xs ys : List ℕ) → Decided (xs ≡ ys)
same_list [] [] = holds refl
same_list [] (y ∷ ys) = fails (λ (e : [] ≡ y ∷ ys). cc)
same_list (x ∷ xs) [] = fails (λ (e : x ∷ xs ≡ []). cc)
same_list (x ∷ xs) (y ∷ ys) =
    carried (both (same_number x y) (same_list xs ys)) (λ p. consed x y xs ys p.0 p.1) (λ e. (front x y xs ys e, rest x y xs ys e)) where
      consed : (x y : ℕ) (xs ys : List ℕ) → x ≡ y → xs ≡ ys → x ∷ xs ≡ y ∷ ys
      consed x y xs ys p q = cc

      front : (x y : ℕ) (xs ys : List ℕ) → x ∷ xs ≡ y ∷ ys → x ≡ y
      front x y xs ys e = cc

      rest : (x y : ℕ) (xs ys : List ℕ) → x ∷ xs ≡ y ∷ ys → xs ≡ ys
      rest x y xs ys e = cc

-- ---- words

-- the bytes are those of numbers that fit
pub record Worded (bytes : List ℕ) : Type 0 where
  pub numbers : List ℕ
  pub fits : Fitting numbers
  pub there : bytes ≡ words numbers

too_short : (bytes : List ℕ) → 0 < length bytes → length bytes < 4 → Worded bytes → ⊥
too_short bytes some few worded = omega (arith, some, few, ap length worded.there, length_words worded.numbers)

-- four bytes before others
abbrev FourMore : (a b c d : ℕ) → List ℕ → Type 0
FourMore a b c d bytes = (a < 256) × ((b < 256) × ((c < 256) × ((d < 256) × Worded bytes)))

four_more : (a b c d : ℕ) (bytes : List ℕ) → FourMore a b c d bytes → Worded (a ∷ b ∷ c ∷ d ∷ bytes)
unfolding word_bytes
four_more a b c d bytes p =
    let first : a < 256 = p.0 in
    let second : b < 256 = p.1.0 in
    let third : c < 256 = p.1.1.0 in
    let fourth : d < 256 = p.1.1.1.0 in
    let worded : Worded bytes = p.1.1.1.1 in
    let n = a + 256 * (b + 256 * (c + 256 * d)) in
    let one : a ≡ n % 256 = omega arith in
    let two : b ≡ n / 256 % 256 = omega arith in
    let three : c ≡ n / 65536 % 256 = omega arith in
    let four : d ≡ n / 16777216 % 256 = omega arith in
    let rest : bytes ≡ words worded.numbers = worded.there in
    record { numbers = n ∷ worded.numbers; fits = (omega arith, worded.fits); there = cc }

four_less : (a b c d : ℕ) (bytes : List ℕ) → Worded (a ∷ b ∷ c ∷ d ∷ bytes) → FourMore a b c d bytes
unfolding word_bytes
four_less a b c d bytes worded = by worded.numbers worded.fits worded.there where
  by : (ns : List ℕ) → Fitting ns → a ∷ b ∷ c ∷ d ∷ bytes ≡ words ns → FourMore a b c d bytes
  by [] fits there = absurd (cc)
  by (n ∷ ns) fits there =
      let one : a ≡ n % 256 = cc in
      let two : b ≡ n / 256 % 256 = cc in
      let three : c ≡ n / 65536 % 256 = cc in
      let four : d ≡ n / 16777216 % 256 = cc in
      let rest : bytes ≡ words ns = cc in
      (omega arith, (omega arith, (omega arith, (omega arith, record { numbers = ns; fits = fits.1; there = rest }))))

pub are_words : (bytes : List ℕ) → Decided (Worded bytes)
are_words [] = holds (record { numbers = []; fits = tt; there = refl })
are_words (a ∷ []) = fails (too_short (a ∷ []) (omega arith) (omega arith))
are_words (a ∷ b ∷ []) = fails (too_short (a ∷ b ∷ []) (omega arith) (omega arith))
are_words (a ∷ b ∷ c ∷ []) = fails (too_short (a ∷ b ∷ c ∷ []) (omega arith) (omega arith))
are_words (a ∷ b ∷ c ∷ d ∷ bytes) =
    carried (both (is_below a 256) (both (is_below b 256) (both (is_below c 256) (both (is_below d 256) (are_words bytes))))) (four_more a b c d bytes)
    (four_less a b c d bytes)

-- ---- items

-- numbers begin with those of an item
pub record Begins {A : Type 0} (f : A → List ℕ) (ns : List ℕ) : Type 0 where
  pub item : A
  pub rest : List ℕ
  pub there : ns ≡ f item ++ rest

begins_long : {A : Type 0} (f : A → List ℕ) (size : ℕ) → ((x : A) → length (f x) ≡ size) → (ns : List ℕ) → length ns < size → Begins f ns → ⊥
begins_long f size sized ns few x = omega (arith, few, ap length x.there, length-append (f x.item) x.rest, sized x.item)

pub begins_hook : (ns : List ℕ) → Decided (Begins hook_words ns)
begins_hook [] = fails (begins_long hook_words 3 (λ x. refl) [] (omega arith))
begins_hook (kind ∷ []) = fails (begins_long hook_words 3 (λ x. refl) (kind ∷ []) (omega arith))
begins_hook (kind ∷ of ∷ []) = fails (begins_long hook_words 3 (λ x. refl) (kind ∷ of ∷ []) (omega arith))
begins_hook (kind ∷ of ∷ addr ∷ ns) = holds (record { item = record { kind = kind; of = of; addr = addr }; rest = ns; there = refl })

-- an act has the number
record IsAct (number : ℕ) : Type 0 where
  act : Act
  is : number ≡ act_number act

act_of : (number : ℕ) → Decided (IsAct number)
act_of zero = holds (record { act = Copy; is = refl })
act_of (suc zero) = holds (record { act = Move; is = refl })
act_of (suc (suc zero)) = holds (record { act = Final; is = refl })
act_of (suc (suc (suc zero))) = holds (record { act = Borrow; is = refl })
act_of (suc (suc (suc (suc n)))) = fails (λ x. omega (arith, x.is, act_small x.act))

pub begins_site : (ns : List ℕ) → Decided (Begins site_words ns)
begins_site [] = fails (begins_long site_words 2 (λ x. refl) [] (omega arith))
begins_site (site ∷ []) = fails (begins_long site_words 2 (λ x. refl) (site ∷ []) (omega arith))
begins_site (site ∷ number ∷ ns) =
    carried (act_of number) (λ known. record { item = record { site = site; act = known.act }; rest = ns; there = ap (λ n. site ∷ n ∷ ns) known.is })
    (λ x. record { act = x.item.act; is = second x.item.site (act_number x.item.act) x.rest x.there }) where
      second : (a b : ℕ) (rest : List ℕ) → site ∷ number ∷ ns ≡ a ∷ b ∷ rest → number ≡ b
      second a b rest e = cc

pub begins_sink : (ns : List ℕ) → Decided (Begins sink_words ns)
begins_sink [] = fails (begins_long sink_words 1 (λ x. refl) [] (omega arith))
begins_sink (sink ∷ ns) = holds (record { item = sink; rest = ns; there = refl })

pub begins_skip : (ns : List ℕ) → Decided (Begins skip_words ns)
begins_skip [] = fails (begins_long skip_words 2 (λ x. refl) [] (omega arith))
begins_skip (place ∷ []) = fails (begins_long skip_words 2 (λ x. refl) (place ∷ []) (omega arith))
begins_skip (place ∷ exit ∷ ns) = holds (record { item = record { place = place; exit = exit }; rest = ns; there = refl })

-- ---- as many items

record Items {A : Type 0} (f : A → List ℕ) (count : ℕ) (ns : List ℕ) : Type 0 where
  items : List A
  rest : List ℕ
  many : length items ≡ count
  there : ns ≡ flat_map f items ++ rest

first_of_items : {A : Type 0} (f : A → List ℕ) (count : ℕ) (ns : List ℕ) → Items f (suc count) ns → Begins f ns
first_of_items {A = A} f count ns all = by all.items all.many all.there where
  by : (xs : List A) → length xs ≡ suc count → ns ≡ flat_map f xs ++ all.rest → Begins f ns
  by [] many there = absurd (omega (arith, many))
  by (x ∷ xs) many there = record { item = x; rest = flat_map f xs ++ all.rest; there = there ∙ append_assoc (f x) (flat_map f xs) all.rest }

rest_of_items : {A : Type 0} (f : A → List ℕ) (size : ℕ) → ((x : A) → length (f x) ≡ size) → (count : ℕ) (ns : List ℕ) (one : Begins f ns)
    → Items f (suc count) ns → Items f count one.rest
rest_of_items {A = A} f size sized count ns one all = by all.items all.many all.there where
  by : (xs : List A) → length xs ≡ suc count → ns ≡ flat_map f xs ++ all.rest → Items f count one.rest
  by [] many there = absurd (omega (arith, many))
  by (x ∷ xs) many there =
      let apart : f one.item ++ one.rest ≡ f x ++ (flat_map f xs ++ all.rest) = sym one.there ∙ there ∙ append_assoc (f x) (flat_map f xs) all.rest in
      let behind = (parts_only (f one.item) (f x) one.rest (flat_map f xs ++ all.rest) (sized one.item ∙ sym (sized x)) apart).1 in
      record { items = xs; rest = all.rest; many = omega (arith, many); there = behind }

more_items : {A : Type 0} (f : A → List ℕ) (count : ℕ) (ns : List ℕ) (one : Begins f ns) → Items f count one.rest → Items f (suc count) ns
more_items f count ns one more = record {
  items = one.item ∷ more.items;
  rest = more.rest;
  many = omega (arith, more.many);
  there = one.there ∙ ap (λ l. f one.item ++ l) more.there ∙ sym (append_assoc (f one.item) (flat_map f more.items) more.rest);
}

items_there : {A : Type 0} (f : A → List ℕ) (size : ℕ) → ((x : A) → length (f x) ≡ size) → ((ns : List ℕ) → Decided (Begins f ns)) → (count : ℕ) (ns : List ℕ)
    → Decided (Items f count ns)
items_there f size sized begins zero ns = holds (record { items = []; rest = ns; many = refl; there = refl })
items_there f size sized begins (suc count) ns = by (begins ns) (λ (rest : List ℕ). items_there f size sized begins count rest) where
  by : Decided (Begins f ns) → ((rest : List ℕ) → Decided (Items f count rest)) → Decided (Items f (suc count) ns)
  by (fails none) next = fails (λ all. none (first_of_items f count ns all))
  by (holds one) next = carried (next one.rest) (more_items f count ns one) (rest_of_items f size sized count ns one)

-- ---- counted lists, one behind the other

record Counts {A : Type 0} (f : A → List ℕ) (ns : List ℕ) : Type 0 where
  items : List A
  rest : List ℕ
  there : ns ≡ counted f items ++ rest

counts : {A : Type 0} (f : A → List ℕ) (size : ℕ) → ((x : A) → length (f x) ≡ size) → ((ns : List ℕ) → Decided (Begins f ns)) → (ns : List ℕ)
    → Decided (Counts f ns)
counts f size sized begins [] = fails (λ x. nothing x.items x.rest x.there) where
  nothing : (items : List _) (rest : List ℕ) → [] ≡ counted f items ++ rest → ⊥
  nothing items rest e = cc
counts {A = A} f size sized begins (n ∷ ns) =
    carried (items_there f size sized begins n ns) (λ i. record { items = i.items; rest = i.rest; there = joined i.items i.rest i.many i.there })
    (λ c. record { items = c.items; rest = c.rest; many = count c.items c.rest c.there; there = behind c.items c.rest c.there }) where
      joined : (items : List A) (rest : List ℕ) → length items ≡ n → ns ≡ flat_map f items ++ rest → n ∷ ns ≡ length items ∷ (flat_map f items ++ rest)
      joined items rest many there = cc

      count : (items : List A) (rest : List ℕ) → n ∷ ns ≡ length items ∷ (flat_map f items ++ rest) → length items ≡ n
      count items rest e = cc

      behind : (items : List A) (rest : List ℕ) → n ∷ ns ≡ length items ∷ (flat_map f items ++ rest) → ns ≡ flat_map f items ++ rest
      behind items rest e = cc

-- a counted list, and something holds of what stands behind it
pub record Then {A : Type 0} (f : A → List ℕ) (Behind : List ℕ → Type 0) (ns : List ℕ) : Type 0 where
  pub items : List A
  pub rest : List ℕ
  pub there : ns ≡ counted f items ++ rest
  pub behind : Behind rest

pub list_then : {A : Type 0} (f : A → List ℕ) (size : ℕ) → ((x : A) → length (f x) ≡ size) → ((x y : A) → f x ≡ f y → x ≡ y)
    → ((ns : List ℕ) → Decided (Begins f ns)) → (Behind : List ℕ → Type 0) → ((ns : List ℕ) → Decided (Behind ns)) → (ns : List ℕ) → Decided (Then f Behind ns)
list_then f size sized tells begins Behind decide ns = by (counts f size sized begins ns) where
  by : Decided (Counts f ns) → Decided (Then f Behind ns)
  by (fails none) = fails (λ t. none (record { items = t.items; rest = t.rest; there = t.there }))
  by (holds one) = carried (decide one.rest) (λ b. record { items = one.items; rest = one.rest; there = one.there; behind = b })
      (λ t. subst Behind (counted_only f size sized tells t.items one.items t.rest one.rest (sym t.there ∙ one.there)).1 t.behind)

-- the four lists of a note
abbrev pub FourLists : List ℕ → Type 0
FourLists ns = Then hook_words (Then site_words (Then sink_words (Then skip_words (λ rest. rest ≡ [])))) ns

pub four_lists : (ns : List ℕ) → Decided (FourLists ns)
four_lists ns =
    list_then hook_words 3 (λ x. refl) hook_only begins_hook (Then site_words (Then sink_words (Then skip_words (λ rest. rest ≡ []))))
    (list_then site_words 2 (λ x. refl) site_only begins_site (Then sink_words (Then skip_words (λ rest. rest ≡ [])))
    (list_then sink_words 1 (λ x. refl) sink_only begins_sink (Then skip_words (λ rest. rest ≡ []))
    (list_then skip_words 2 (λ x. refl) skip_only begins_skip (λ rest. rest ≡ []) (λ rest. same_list rest [])))) ns
