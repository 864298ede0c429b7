-- The sections of a text are those of its module.
use Rattle.std.proofs.Common.{zero, suc, ◌≡◌, ℕ, ◌+◌, ◌==◌, Bool, true, false, if◌then◌else◌, List, [], ◌∷◌, ◌++◌, codes, map, length, take, slice_get, Some, None, refl, ap, sym, ◌∙◌, arith, append_assoc, append-nil}
use Rattle.std.proofs.lemmas.Bool.Decides.{nat_tests}
use Rattle.std.proofs.Math.Seq.{take-length}
use Rattle.rtl_net.specs.Net.{Net}
use Rattle.rtl_net.specs.declared.node.Seat.{Seat}
use Rattle.v_design.specs.Header.{port_text, ports_text, header}
use Rattle.v_printer.specs.Module.{numbered, port_of, ports, register_decl, wire_decl, wire_stmt, output_stmt, register_stmt, decls, stmts, tree_of}
use Rattle.v_printer.specs.Layout.{decl_text, stmt_text, each_text, section_text, port_line, shown_text, text_of}
use Rattle.v_printer.specs.declared.section.Section.TheVariants.{Registers, Wires, Assignments, Blocks}
use Rattle.v_printer.proofs.Laying.{tree_text}

pub each_text-append : {X : Type 0} (f : X → List ℕ) (xs ys : List X) → each_text f (xs ++ ys) ≡ each_text f xs ++ each_text f ys
each_text-append f [] ys = refl
each_text-append f (x ∷ xs) ys = ap (λ l. f x ++ l) (each_text-append f xs ys) ∙ sym (append_assoc (f x) (each_text f xs) (each_text f ys))

numbered_text : {X A : Type 0} (f : A → List ℕ) (g : ℕ → X → List A) (k : ℕ) (xs : List X) → each_text f (numbered g k xs) ≡ numbered (λ i x. each_text f (g i x)) k xs
numbered_text f g k [] = refl
numbered_text f g k (x ∷ xs) = each_text-append f (g k x) (numbered g (k + 1) xs) ∙ ap (λ l. each_text f (g k x) ++ l) (numbered_text f g (k + 1) xs)

six_parts : (h r w a o b e : List ℕ) → h ++ ((r ++ w) ++ ((a ++ (o ++ b)) ++ e)) ≡ h ++ (r ++ (w ++ (a ++ (o ++ (b ++ e)))))
six_parts h r w a o b e = simp append_assoc

pub text_is : (net : Net) → tree_text (tree_of net) ≡ text_of net
unfolding text_of
text_is net =
    let d : each_text decl_text (decls net) ≡ section_text net Registers ++ section_text net Wires
    = each_text-append decl_text (numbered register_decl 0 net.nodes) (numbered (wire_decl net) 0 net.nodes)
    ∙ (ap (λ l. l ++ each_text decl_text (numbered (wire_decl net) 0 net.nodes)) (numbered_text decl_text register_decl 0 net.nodes)
    ∙ ap (λ l. section_text net Registers ++ l) (numbered_text decl_text (wire_decl net) 0 net.nodes)) in
    let s : each_text stmt_text (stmts net) ≡ section_text net Assignments ++ (numbered (shown_text net) 0 net.seats ++ section_text net Blocks)
    = each_text-append stmt_text (numbered (wire_stmt net) 0 net.nodes) _
    ∙ (ap (λ l. l ++ each_text stmt_text (numbered (output_stmt net) 0 net.seats ++ numbered (register_stmt net) 0 net.nodes)) (numbered_text stmt_text (wire_stmt net) 0 net.nodes)
    ∙ ap (λ l. section_text net Assignments ++ l) (each_text-append stmt_text (numbered (output_stmt net) 0 net.seats) (numbered (register_stmt net) 0 net.nodes)
    ∙ (ap (λ l. l ++ each_text stmt_text (numbered (register_stmt net) 0 net.nodes)) (numbered_text stmt_text (output_stmt net) 0 net.seats)
    ∙ ap (λ l. numbered (shown_text net) 0 net.seats ++ l) (numbered_text stmt_text (register_stmt net) 0 net.nodes)))) in
    ap (λ l. header net.name (ports net) ++ (l ++ (each_text stmt_text (stmts net) ++ codes "endmodule\n"))) d
    ∙ (ap (λ l. header net.name (ports net) ++ ((section_text net Registers ++ section_text net Wires) ++ (l ++ codes "endmodule\n"))) s
    ∙ six_parts (header net.name (ports net)) (section_text net Registers) (section_text net Wires) (section_text net Assignments) (numbered (shown_text net) 0 net.seats) (section_text net Blocks) (codes "endmodule\n"))

-- the lines of the ports
last_is : (k n : ℕ) → n ≡ k + 1 → (k + 1 == n) ≡ true
last_is k n e = grind (arith, nat_tests)

last_not : (k n m : ℕ) → n ≡ k + 1 + suc m → (k + 1 == n) ≡ false
last_not k n m e = grind (arith, nat_tests)

pub port_lines : (count k : ℕ) (ss : List Seat) → count ≡ k + length ss → numbered (port_line count) k ss ≡ ports_text (map port_of ss)
port_lines count k [] e = refl
port_lines count k (s ∷ []) e =
    append-nil (port_line count k s) ∙ ap (λ (b : Bool). port_text (port_of s) ++ (if b then codes "\n" else codes ",\n")) (last_is k count (omega arith))
port_lines count k (s ∷ r ∷ ss) e =
    ap (λ (b : Bool). (port_text (port_of s) ++ (if b then codes "\n" else codes ",\n")) ++ numbered (port_line count) (k + 1) (r ∷ ss)) (last_not k count (length ss) (omega arith))
    ∙ (append_assoc (port_text (port_of s)) (codes ",\n") (numbered (port_line count) (k + 1) (r ∷ ss))
    ∙ ap (λ l. port_text (port_of s) ++ (codes ",\n" ++ l)) (port_lines count (k + 1) (r ∷ ss) (omega arith)))

-- the lines of one item more
pub numbered_more : {X A : Type 0} (f : ℕ → X → List A) (k : ℕ) (xs : List X) (i : ℕ) (x : X) → slice_get xs i ≡ Some x → numbered f k (take (suc i) xs) ≡ numbered f k (take i xs) ++ f (k + i) x
numbered_more f k [] i x h = absurd (let q : None ≡ Some x = h in cc)
numbered_more f k (y ∷ xs) zero x h = let q : y ≡ x = cc in append-nil (f k y) ∙ (ap (f k) q ∙ ap (λ j. f j x) (omega arith))
numbered_more f k (y ∷ xs) (suc i) x h =
    ap (λ l. f k y ++ l) (numbered_more f (k + 1) xs i x h ∙ ap (λ j. numbered f (k + 1) (take i xs) ++ f j x) (omega arith))
    ∙ sym (append_assoc (f k y) (numbered f (k + 1) (take i xs)) (f (k + suc i) x))

-- the lines of the last items
pub numbered_rest : {X A : Type 0} (f : ℕ → X → List A) (k : ℕ) (xs : List X) (i : ℕ) (x : X) → slice_get xs i ≡ Some x → (ys : List A) × (numbered f k xs ≡ numbered f k (take i xs) ++ (f (k + i) x ++ ys))
numbered_rest f k [] i x h = absurd (let q : None ≡ Some x = h in cc)
numbered_rest f k (y ∷ xs) zero x h = let q : y ≡ x = cc in (numbered f (k + 1) xs, ap (λ z. f k z ++ numbered f (k + 1) xs) q ∙ ap (λ j. f j x ++ numbered f (k + 1) xs) (omega arith))
numbered_rest f k (y ∷ xs) (suc i) x h =
    let r = numbered_rest f (k + 1) xs i x h in
    (r.0, ap (λ l. f k y ++ l) (r.1 ∙ ap (λ j. numbered f (k + 1) (take i xs) ++ (f j x ++ r.0)) (omega arith)) ∙ sym (append_assoc (f k y) (numbered f (k + 1) (take i xs)) (f (k + suc i) x ++ r.0)))

module _ {X : Type 0} (f : ℕ → X → List ℕ) (xs : List X) where
  -- the lines of the first i items and of the next
  pub more_lines : (i : ℕ) (x : X) → slice_get xs i ≡ Some x → numbered f 0 (take i xs) ++ f i x ≡ numbered f 0 (take (i + 1) xs)
  more_lines i x h =
      let e : suc i ≡ i + 1 = omega arith in
      let z : 0 + i ≡ i = omega arith in
      sym (ap (λ j. numbered f 0 (take j xs)) (sym e) ∙ (numbered_more f 0 xs i x h ∙ ap (λ j. numbered f 0 (take i xs) ++ f j x) z))

  -- the lines that follow these
  pub lines_left : (i : ℕ) (x : X) → slice_get xs i ≡ Some x → List ℕ
  lines_left i x h = (numbered_rest f 0 xs i x h).0

  pub all_lines : (i : ℕ) (x : X) (h : slice_get xs i ≡ Some x) → numbered f 0 (take i xs) ++ (f i x ++ lines_left i x h) ≡ numbered f 0 xs
  unfolding lines_left
  all_lines i x h =
      let z : 0 + i ≡ i = omega arith in
      sym ((numbered_rest f 0 xs i x h).1 ∙ ap (λ j. numbered f 0 (take i xs) ++ (f j x ++ (numbered_rest f 0 xs i x h).0)) z)

  pub last_lines : (i : ℕ) → i ≡ length xs → numbered f 0 (take i xs) ≡ numbered f 0 xs
  last_lines i e = ap (λ j. numbered f 0 (take j xs)) e ∙ ap (numbered f 0) (take-length xs)
