-- What is known of a file while it is read from the front.
use Rattle.std.proofs.Common.{◌≡◌, ℕ, ◌+◌, ◌<◌, ◌≤◌, List, [], ◌++◌, length, take, drop, Option, None, Some, refl, sym, ◌∙◌, ap, subst, arith, length-append, length-take, length-drop}
use Rattle.std.proofs.Math.Seq.{take-add}
use Rattle.std.proofs.lemmas.List.{take_all}
use Rattle.rb_edge.specs.Shelf.{Files, Holds, IsLonger, Reads}

-- these bytes are the first of the file, where the shelf tells
abbrev pub IsFront : Option Files → List ℕ → List ℕ → Type 0
IsFront None name front = Unit {0}
IsFront (Some files) name front = (bytes : List ℕ) → files name ≡ Some bytes → front ≡ take (length front) bytes

same_bytes : (x y : List ℕ) (o : Option (List ℕ)) → o ≡ Some x → o ≡ Some y → x ≡ y
same_bytes x y o p q = cc

pub IsFront-nil : (contents : Option Files) (name : List ℕ) → IsFront contents name []
IsFront-nil None name = tt
IsFront-nil (Some files) name = λ bytes held. refl

grown : (front bytes buffer : List ℕ) (n : ℕ) → front ≡ take (length front) bytes → take n buffer ≡ take n (drop (length front) bytes) → n ≤ length buffer
    → front ++ take n buffer ≡ take (length (front ++ take n buffer)) bytes
grown front bytes buffer n is read fits =
    let len : length (front ++ take n buffer) ≡ length front + n = omega (arith, length-append front (take n buffer), length-take n buffer) in
    let joined : take (length front + n) bytes ≡ take (length front) bytes ++ take n (drop (length front) bytes) = take-add (length front) n bytes in
    sym (ap (λ k. take k bytes) len ∙ joined ∙ (λ i. sym is i ++ sym read i))

-- a read adds to them
pub IsFront-more : (contents : Option Files) (name front buffer new : List ℕ) (n : ℕ) → IsFront contents name front → Reads contents name (length front) buffer n → n ≤ length buffer
    → new ≡ front ++ take n buffer → IsFront contents name new
IsFront-more None name front buffer new n is reads fits more = tt
IsFront-more (Some files) name front buffer new n is reads fits more = λ bytes held.
    let same = same_bytes reads.bytes bytes (files name) reads.held held in
    let P : List ℕ → Type 0 = λ bs. take n buffer ≡ take n (drop (length front) bs) in
    rw more (grown front bytes buffer n (is bytes held) (subst P same reads.read) fits)

-- where a read gives nothing they are all
pub IsFront-all : (contents : Option Files) (name front buffer : List ℕ) (n : ℕ) → IsFront contents name front → Reads contents name (length front) buffer n → n ≡ 0 → 0 < length buffer
    → Holds contents name front
IsFront-all None name front buffer n is reads none room = tt
IsFront-all (Some files) name front buffer n is reads none room =
    let all : take (length front) reads.bytes ≡ reads.bytes = take_all (length front) reads.bytes ((reads.ended room).0 none) in
    reads.held ∙ ap Some (sym (is reads.bytes reads.held ∙ all))

-- where a read gives more than the limit allows the file is longer
pub IsFront-longer : (contents : Option Files) (name front buffer : List ℕ) (n limit : ℕ) → IsFront contents name front → Reads contents name (length front) buffer n → n ≤ length buffer
    → limit < length front + n → IsLonger contents name limit
IsFront-longer None name front buffer n limit is reads fits over = tt
IsFront-longer (Some files) name front buffer n limit is reads fits over = (
  reads.bytes,
  reads.held,
  omega (
    arith,
    ap length (is reads.bytes reads.held),
    ap length reads.read,
    length-take (length front) reads.bytes,
    length-take n buffer,
    length-take n (drop (length front) reads.bytes),
    length-drop (length front) reads.bytes,
  ),
)
