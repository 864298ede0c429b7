-- Which words the nodes of an access reach.
use Rattle.std.proofs.Common.{◌≡◌, ℕ, ◌<◌, ◌==◌, Bool, true, false, ◌&&◌, if◌then◌else◌, List, length, refl, sym, ap, ◌∙◌, subst, arith, inl, inr, ◌⊎◌}
use Rattle.std.proofs.lemmas.Option.{slice_get_within}
use Rattle.plain_lemmas.proofs.Numbers.{below-two as below_two}
use Rattle.rtl_net.specs.Value.{At, bit_of}
use Rattle.rtl_net.specs.Net.{Net, IsNode, Settles}
use Rattle.rtl_net.specs.declared.node.Id.{Id}
use Rattle.rtl_net.proofs.Nets.{fits_at}
use Rattle.rb_model.specs.declared.block.Block.{Block}
use Rattle.rb_model.specs.Items.{Access, NoAccess, Read, Write, Now}
use Rattle.block_plan.specs.Behind.{IsThere}
use Rattle.gen_decode.specs.Hits.{AreHits}
use Rattle.gen_scene.specs.declared.base.Inlet.{Inlet}
use Rattle.gen_scene.specs.Bases.{HasInlet}
use Rattle.gen_scene.specs.Worth.{Finds}
use Rattle.gen_access.specs.Words.{AreHitsOf, AreMarkedWords, data_of, is_at, read_word, reads_through, written_word, writes_through}

-- an access of these nodes
abbrev pub access_of : (valid write word bits : ℕ) → Access
access_of valid write word bits = if valid == 0 then NoAccess else (if write == 0 then Read word else Write word bits)

-- the bits of an access that writes
pub data_is : (j valid write word bits : ℕ) → is_at j (written_word (access_of valid write word bits)) ≡ true → bits ≡ data_of (access_of valid write word bits)
data_is j valid write word bits h = by (valid == 0) (write == 0) h
  where
    by : (c d : Bool) → is_at j (written_word (if c then NoAccess else (if d then Read word else Write word bits))) ≡ true → bits ≡ data_of (if c then NoAccess else (if d then Read word else Write word bits))
    by true d h = cc
    by false true h = cc
    by false false h = refl

bit_one : (c : Bool) → (bit_of c == 1) ≡ c
bit_one true = refl
bit_one false = refl

module _ (b : Block) (valid write word bits : ℕ) (low_valid : valid < 2) (low_write : write < 2) where
  reading : ℕ
  reading = bit_of (valid == 1 && bit_of (write == 0) == 1)

  writing : ℕ
  writing = bit_of (valid == 1 && write == 1)

  -- where the nodes say a read, its word is there
  pub read_there : IsThere b (access_of valid write word bits) → bit_of (valid == 1 && bit_of (write == 0) == 1) ≡ 1 → word < length b.reads
  read_there there e = by valid write (below_two valid low_valid) (below_two write low_write) there e
    where
      by : (x y : ℕ) → (x ≡ 0) ⊎ (x ≡ 1) → (y ≡ 0) ⊎ (y ≡ 1) → IsThere b (access_of x y word bits) → bit_of (x == 1 && bit_of (y == 0) == 1) ≡ 1 → word < length b.reads
      by x y (inl p) q t e = let z : bit_of (x == 1 && bit_of (y == 0) == 1) ≡ 0 = rw p refl in absurd (omega arith)
      by x y (inr p) (inl q) t e = let T : ℕ → ℕ → Type 0 = λ x y. IsThere b (access_of x y word bits) in subst (λ y. T 1 y) q (subst (λ x. T x y) p t)
      by x y (inr p) (inr q) t e = let z : bit_of (x == 1 && bit_of (y == 0) == 1) ≡ 0 = rw (p, q) refl in absurd (omega arith)

  pub write_there : IsThere b (access_of valid write word bits) → bit_of (valid == 1 && write == 1) ≡ 1 → word < length b.writes
  write_there there e = by valid write (below_two valid low_valid) (below_two write low_write) there e
    where
      by : (x y : ℕ) → (x ≡ 0) ⊎ (x ≡ 1) → (y ≡ 0) ⊎ (y ≡ 1) → IsThere b (access_of x y word bits) → bit_of (x == 1 && y == 1) ≡ 1 → word < length b.writes
      by x y (inl p) q t e = let z : bit_of (x == 1 && y == 1) ≡ 0 = rw p refl in absurd (omega arith)
      by x y (inr p) (inl q) t e = let z : bit_of (x == 1 && y == 1) ≡ 0 = rw (p, q) refl in absurd (omega arith)
      by x y (inr p) (inr q) t e = let T : ℕ → ℕ → Type 0 = λ x y. IsThere b (access_of x y word bits) in subst (λ y. T 1 y) q (subst (λ x. T x y) p t)

  -- the node of a word
  pub read_at : (j : ℕ) → bit_of (bit_of (valid == 1 && bit_of (write == 0) == 1) == 1 && word == j) ≡ bit_of (is_at j (read_word (access_of valid write word bits)))
  read_at j = by valid write (below_two valid low_valid) (below_two write low_write)
    where
      by : (x y : ℕ) → (x ≡ 0) ⊎ (x ≡ 1) → (y ≡ 0) ⊎ (y ≡ 1) → bit_of (bit_of (x == 1 && bit_of (y == 0) == 1) == 1 && word == j) ≡ bit_of (is_at j (read_word (access_of x y word bits)))
      by x y (inl p) q = rw p refl
      by x y (inr p) (inl q) = rw (p, q) refl
      by x y (inr p) (inr q) = rw (p, q) refl

  pub write_at : (j : ℕ) → bit_of (bit_of (valid == 1 && write == 1) == 1 && word == j) ≡ bit_of (is_at j (written_word (access_of valid write word bits)))
  write_at j = by valid write (below_two valid low_valid) (below_two write low_write)
    where
      by : (x y : ℕ) → (x ≡ 0) ⊎ (x ≡ 1) → (y ≡ 0) ⊎ (y ≡ 1) → bit_of (bit_of (x == 1 && y == 1) == 1 && word == j) ≡ bit_of (is_at j (written_word (access_of x y word bits)))
      by x y (inl p) q = rw p refl
      by x y (inr p) (inl q) = rw (p, q) refl
      by x y (inr p) (inr q) = rw (p, q) refl

module _ (b : Block) (a : Inlet) (net : Net) (on : Id) (needed : List Bool) (hits : List Id) (inlet : HasInlet net a) (hit : AreHits net on a.word needed hits) where
  valid_low : (v : At) → Settles net v → v.node a.valid.0 < 2
  valid_low v s = let f = fits_at net v a.valid 1 s inlet.valid in omega arith

  write_low : (v : At) → Settles net v → v.node a.write.0 < 2
  write_low v s = let f = fits_at net v a.write 1 s inlet.write in omega arith

  there_at : (v : At) (n : Now) → Finds b a v n → IsThere b (access_of (v.node a.valid.0) (v.node a.write.0) (v.node a.word.0) (v.node a.bits.0))
  there_at v n f = subst (IsThere b) f.access f.there

  pub read_hits : length hits ≡ length needed → AreMarkedWords b reads_through b.reads needed → IsNode net on 1 (λ x. bit_of (x.node a.valid.0 == 1 && bit_of (x.node a.write.0 == 0) == 1)) → AreHitsOf b a net b.reads read_word reads_through hits
  read_hits counted marked node = record {
    long = counted ∙ marked.long;
    stand = λ j l. hit.stand.each j (let e = counted in let m = marked.long in omega arith);
    each = λ j w at some. let l : j < length hits = (let e = counted in let m = marked.long in let k = slice_get_within b.reads j w at in omega arith) in record {
      stands = hit.stand.each j l;
      value = λ v s n f items c.
          let e = node.value v s in
          hit.value v s (λ one. let r = read_there b (v.node a.valid.0) (v.node a.write.0) (v.node a.word.0) (v.node a.bits.0) (valid_low v s) (write_low v s) (there_at v n f) (sym e ∙ one) in omega (arith, counted, marked.long)) j l (marked.each j w at ∙ some)
          ∙ ap (λ t. bit_of (t == 1 && v.node a.word.0 == j)) e
          ∙ read_at b (v.node a.valid.0) (v.node a.write.0) (v.node a.word.0) (v.node a.bits.0) (valid_low v s) (write_low v s) j
          ∙ ap (λ t. bit_of (is_at j (read_word t))) (sym f.access);
    };
  }

  pub write_hits : length hits ≡ length needed → AreMarkedWords b writes_through b.writes needed → IsNode net on 1 (λ x. bit_of (x.node a.valid.0 == 1 && x.node a.write.0 == 1)) → AreHitsOf b a net b.writes written_word writes_through hits
  write_hits counted marked node = record {
    long = counted ∙ marked.long;
    stand = λ j l. hit.stand.each j (let e = counted in let m = marked.long in omega arith);
    each = λ j w at some. let l : j < length hits = (let e = counted in let m = marked.long in let k = slice_get_within b.writes j w at in omega arith) in record {
      stands = hit.stand.each j l;
      value = λ v s n f items c.
          let e = node.value v s in
          hit.value v s (λ one. let r = write_there b (v.node a.valid.0) (v.node a.write.0) (v.node a.word.0) (v.node a.bits.0) (valid_low v s) (write_low v s) (there_at v n f) (sym e ∙ one) in omega (arith, counted, marked.long)) j l (marked.each j w at ∙ some)
          ∙ ap (λ t. bit_of (t == 1 && v.node a.word.0 == j)) e
          ∙ write_at b (v.node a.valid.0) (v.node a.write.0) (v.node a.word.0) (v.node a.bits.0) (valid_low v s) (write_low v s) j
          ∙ ap (λ t. bit_of (is_at j (written_word t))) (sym f.access);
    };
  }
