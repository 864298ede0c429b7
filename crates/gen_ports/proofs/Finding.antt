-- Which word has an address.
use Rattle.std.proofs.Common.{◌≡◌, ℕ, zero, suc, ◌+◌, ◌<◌, ◌≤◌, ◌==◌, Bool, true, false, not, ◌||◌, if◌then◌else◌, Some, None, List, [], ◌∷◌, map, length, refl, ap, sym, ◌∙◌, subst, arith}
use Rattle.std.specs.Prelude.{is_some, nat_lt, position, unwrap_or}
use Rattle.std.specs.List.{list_any, position_or_len}
use Rattle.std.specs.List.Sorted.{IsStrictlyIncreasing}
use Rattle.std.proofs.lemmas.Bool.Decides.{nat_tests}
use Rattle.std.proofs.lemmas.List.{length-map}
use Rattle.rtl_net.specs.Value.{bit_of}
use Rattle.rtl_net.specs.Net.{Net, IsNode}
use Rattle.rtl_net.specs.declared.node.Id.{Id}
use Rattle.rb_model.specs.declared.block.Block.{Block}
use Rattle.rb_model.specs.declared.block.Word.{Word}
use Rattle.rb_model.specs.Run.{word_at}
use Rattle.rb_model.specs.Sound.{IsSound}
use Rattle.gen_decode.specs.declared.words.Decoded.{Decoded}
use Rattle.gen_ports.specs.Found.{FindsWord}

prefix_mapped : (g : Word → ℕ) (a : ℕ) (ws : List Word) → position_or_len (λ x. a == x) (map g ws) ≡ position_or_len (λ w. a == g w) ws
prefix_mapped g a [] = refl
prefix_mapped g a (w ∷ ws) = let e : position_or_len (λ x. a == x) (map g ws) ≡ position_or_len (λ w. a == g w) ws = prefix_mapped g a ws in rw e refl

word_mapped : (ws : List Word) (a : ℕ) → position (λ x. a == x) (map (λ w. w.address) ws) ≡ word_at ws a
word_mapped ws a =
    let e : position_or_len (λ x. a == x) (map (λ w. w.address) ws) ≡ position_or_len (λ w. a == w.address) ws = prefix_mapped (λ w. w.address) a ws in
    let l : length (map (λ w. w.address) ws) ≡ length ws = length-map ws (λ w. w.address) in
    rw (e, l) refl

-- a word that may be read may be written, and has one number for both
pub written_as_read : (b : Block) → IsSound b → (a : ℕ) → word_at b.writes a ≡ word_at b.reads a
written_as_read b sound a = sym (word_mapped b.writes a) ∙ ap (position (λ x. a == x)) (sym sound.same_addresses) ∙ word_mapped b.reads a

lt_more : (p n : ℕ) → nat_lt (1 + p) (suc n) ≡ nat_lt p n
lt_more p n = grind (arith, nat_tests)

some_more : (n : ℕ) → nat_lt 0 (suc n) ≡ true
some_more n = grind (arith, nat_tests)

found_within : (a : ℕ) (xs : List ℕ) → nat_lt (position_or_len (λ x. a == x) xs) (length xs) ≡ list_any (λ x. a == x) xs
found_within a [] = refl
found_within a (x ∷ xs) = by (a == x) (found_within a xs)
  where
    by : (c : Bool) → nat_lt (position_or_len (λ y. a == y) xs) (length xs) ≡ list_any (λ y. a == y) xs → nat_lt (if not c then 1 + position_or_len (λ y. a == y) xs else 0) (suc (length xs)) ≡ (c || list_any (λ y. a == y) xs)
    by true h = some_more (length xs)
    by false h = lt_more (position_or_len (λ y. a == y) xs) (length xs) ∙ h

some_if : (c : Bool) (k : ℕ) → is_some (if c then Some k else None) ≡ c
some_if true k = refl
some_if false k = refl

hit_is : (ws : List Word) (a : ℕ) → list_any (λ x. a == x) (map (λ w. w.address) ws) ≡ is_some (word_at ws a)
hit_is ws a = sym (found_within a (map (λ w. w.address) ws)) ∙ sym (some_if (nat_lt (position_or_len (λ x. a == x) (map (λ w. w.address) ws)) (length (map (λ w. w.address) ws))) (position_or_len (λ x. a == x) (map (λ w. w.address) ws)))
    ∙ ap is_some (word_mapped ws a)

pub finds_word : (b : Block) (net : Net) (address : Id) (words : List ℕ) (d : Decoded) → words ≡ map (λ w. w.address) b.reads
    → IsNode net d.hit 1 (λ x. bit_of (list_any (λ w. x.node address.0 == w) words)) → IsNode net d.word 16 (λ x. unwrap_or (position (λ w. x.node address.0 == w) words) 0) → FindsWord b net address d
finds_word b net address words d e hit word = record {
  hit = record { stands = hit.stands; value = λ v s. hit.value v s ∙ ap (λ ws. bit_of (list_any (λ w. v.node address.0 == w) ws)) e ∙ ap bit_of (hit_is b.reads (v.node address.0)) };
  word = record { stands = word.stands; value = λ v s. word.value v s ∙ ap (λ ws. unwrap_or (position (λ w. v.node address.0 == w) ws) 0) e ∙ ap (λ o. unwrap_or o 0) (word_mapped b.reads (v.node address.0)) };
}

pub rising_words : (b : Block) → IsSound b → (words : List ℕ) → words ≡ map (λ w. w.address) b.reads → IsStrictlyIncreasing words
rising_words b sound words e = subst IsStrictlyIncreasing (sym e) sound.by_address

pub few_words : (b : Block) → IsSound b → (words : List ℕ) → words ≡ map (λ w. w.address) b.reads → length words ≤ 65536
few_words b sound words e = let l : length words ≡ length b.reads = ap length e ∙ length-map b.reads (λ w. w.address) in omega (arith, l, sound.some_word.1)
