-- The numbers of a part are those of its group.
use Rattle.std.proofs.Common.{◌≡◌, ◌∙◌, ℕ, ◌+◌, ◌*◌, max, cond, Option, None, Some, option_to_list, List, [], ◌∷◌, map, refl, ap, sym}
use Rattle.std.specs.Option.{unwrap_or}
use Rattle.rdl_layers.specs.Phase4.{first_or}
use Rattle.rdl_addr.specs.Layout as layout
use Rattle.rdl_addr.specs.Layout.{Group, given, greatest}
use Rattle.rdl_layout.specs.Parts as parts
use Rattle.rdl_addr.specs.Parts.{IsPartOf, ArePartsOf, mode_of}
use Rattle.rdl_addr.specs.Rounding.{multiple_from, up}
use Rattle.rdl_layout.specs.declared.part.Mode.{Mode}
use Rattle.rdl_layout.specs.declared.part.Mode.TheVariants.{Compact, Regalign, Fullalign}
use Rattle.rdl_layout.specs.declared.part.Part.{Part}

first-of : (o : Option ℕ) (d : ℕ) → first_or (option_to_list o) d ≡ unwrap_or o d
first-of None d = refl
first-of (Some x) d = refl

-- where a start is given, or what it is a multiple of, or neither
chosen : (multiple before : ℕ) → List ℕ → List ℕ → ℕ
chosen multiple before (x ∷ xs) ms = x
chosen multiple before [] (m ∷ ms) = multiple_from (max m 1) before
chosen multiple before [] [] = multiple_from multiple before

chosen-started : (multiple before : ℕ) (at align : Option ℕ) → parts.started multiple before at align ≡ chosen multiple before (option_to_list at) (option_to_list align)
unfolding chosen
chosen-started multiple before (Some x) m = refl
chosen-started multiple before None (Some m) = refl
chosen-started multiple before None None = refl

chosen-start : (m : layout.Mode) (before : ℕ) (g : Group) (xs ms : List ℕ) → given g g.first.use_.form.at ≡ xs → given g g.first.use_.form.align ≡ ms
    → layout.start m before g ≡ chosen (layout.alignment m g) before xs ms
unfolding chosen
chosen-start m before g (x ∷ xs) ms e f = rw e refl
chosen-start m before g [] (k ∷ ks) e f = rw (e, f) refl
chosen-start m before g [] [] e f = rw (e, f) refl

module _ (p : Part) (g : Group) (is : IsPartOf p g) where
  defaults : (m : Mode) → parts.default_stride m p ≡ layout.default_stride (mode_of m) g
  defaults Compact = λ i. multiple_from (is.width i) (is.bytes i)
  defaults Regalign = ap up is.bytes
  defaults Fullalign = ap up is.bytes

  pub strides : (m : Mode) → parts.stride m p ≡ layout.stride (mode_of m) g
  strides m = sym (first-of p.stride (parts.default_stride m p)) ∙ (λ i. first_or (is.stride_ i) (defaults m i))

  pub spans : (m : Mode) → parts.span m p ≡ layout.span (mode_of m) g
  spans m = λ i. is.count i * strides m i + is.bytes i

  alignments : (m : Mode) → parts.alignment m p ≡ layout.alignment (mode_of m) g
  alignments Compact = is.width
  alignments Regalign = ap up is.bytes
  alignments Fullalign = λ i. cond (is.array i) (up (spans Fullalign i)) (up (is.bytes i))

  pub starting : (m : Mode) (before : ℕ) → parts.start m before p ≡ layout.start (mode_of m) before g
  starting m before =
      chosen-started (parts.alignment m p) before p.at p.align
      ∙ ((λ i. chosen (alignments m i) before (is.at_ i) (is.align_ i)) ∙ sym (chosen-start (mode_of m) before g (given g g.first.use_.form.at) (given g g.first.use_.form.align) refl refl))

  pub ending : (m : Mode) (before : ℕ) → parts.end m before p ≡ layout.end (mode_of m) before g
  ending m before = λ i. starting m before i + spans m i

pub all-starts : (m : Mode) (before : ℕ) (ps : List Part) (gs : List Group) → ArePartsOf ps gs → parts.starts m before ps ≡ map (λ g. g.1) (layout.starts (mode_of m) before gs)
all-starts m before [] [] h = refl
all-starts m before [] (g ∷ gs) h = absurd h
all-starts m before (p ∷ ps) [] h = absurd h
all-starts m before (p ∷ ps) (g ∷ gs) h =
    let more = all-starts m (layout.end (mode_of m) before g) ps gs h.1 in
    let e = ending p g h.0 m before in
    λ i. starting p g h.0 m before i ∷ (ap (λ b. parts.starts m b ps) e ∙ more) i

-- the greatest of the ends of groups, before the first of which stands so much
abbrev ends_from : layout.Mode → ℕ → List Group → ℕ
ends_from m before gs = greatest (map (λ g. g.1 + layout.span m g.0) (layout.starts m before gs))

pub greatest-ends : (m : Mode) (before : ℕ) (ps : List Part) (gs : List Group) → ArePartsOf ps gs → parts.greatest_end m before ps ≡ ends_from (mode_of m) before gs
greatest-ends m before [] [] h = refl
greatest-ends m before [] (g ∷ gs) h = absurd h
greatest-ends m before (p ∷ ps) [] h = absurd h
greatest-ends m before (p ∷ ps) (g ∷ gs) h =
    let more = greatest-ends m (layout.end (mode_of m) before g) ps gs h.1 in
    let e = ending p g h.0 m before in
    λ i. max (e i) ((ap (λ b. parts.greatest_end m b ps) e ∙ more) i)
