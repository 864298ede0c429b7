-- The first word behind some bytes of a text.
use Rattle.std.proofs.Common.{◌≡◌, ℕ, ◌+◌, ◌-◌, ◌≤◌, Some, List, length, take, drop, ap, sym, ◌∙◌, subst, arith, length-take, length-drop}
use Rattle.std.proofs.lemmas.List.{drop-drop}
use Rattle.rb_grammar.specs.Separators.{Skips}
use Rattle.rb_grammar.specs.Spelling.{SpellsFrom}
use Rattle.vcd_syntax.specs.Words.{vcd}
use Rattle.vcd_syntax.specs.Tokens.{Word}
use Rattle.vcd_reader.specs.Fronts.{StartsBy, IsBehind}
use Rattle.vcd_reader.proofs.Existing.{coloured, means_itself}

pub is_behind : (text left : List ℕ) (at gap len : ℕ) (w : Word) → at ≤ length text → left ≡ drop at text → StartsBy left gap len → w.token ≡ take len (drop gap left) → w.place ≡ at + gap → IsBehind text at w
is_behind text left at gap len w l e h t p = record {
  within = omega (arith, p, size, h.within, long, l);
  further = omega (arith, p, size, h.some);
  spelled = λ ls s. (
    drop len (drop gap left),
    record {
      left = drop gap left;
      word = take len (drop gap left);
      skips = subst (λ z. Skips vcd.comments z (drop gap left)) e (coloured left (drop gap left) h.skips);
      next = h.next;
      means = means_itself (take len (drop gap left)) h.next.form ∙ ap Some (sym t);
      at = omega (arith, p, length-drop gap left, long, h.within, l);
    },
    subst (λ z. SpellsFrom vcd (length text) z ls) (sym rest) s,
  );
}
  where
    long : length left ≡ length text - at
    long = ap length e ∙ length-drop at text

    size : length w.token ≡ len
    size = omega (arith, ap length t, length-take len (drop gap left), length-drop gap left, h.within)

    rest : drop len (drop gap left) ≡ drop (w.place + length w.token) text
    rest =
        let sum : at + (gap + len) ≡ w.place + length w.token = omega (arith, p, size) in
        drop-drop len gap left ∙ (ap (drop (gap + len)) e ∙ (drop-drop (gap + len) at text ∙ ap (λ n. drop n text) sum))
