use Rattle.std.proofs.Common.{◌≡◌, ◌∙◌, ◌++◌, ap, codes}
use Rattle.encodings.specs.Encodings.{Enumerations}
use Rattle.rb_model.specs.declared.block.Block.{Block}
use Rattle.word_groups.specs.Arrays.{entries}
use Rattle.c_header.specs.Header.{entry_texts, enumeration_texts, first_lines}
use Rattle.c_header.specs.Names.{prefix}
use Rattle.c_header.proofs.text.header.Goals as goal

pub returns : goal.returns
returns c =
    let b = c.args.block.now in
    let name : c.deref.result.now ≡ b.name = c.deref.ensures.value ∙ ap (λ (v : Block). v.name) c.block.view_is in
    let top : c.deref-3.result.now ≡ b.name = c.deref-3.ensures.value ∙ ap (λ (v : Block). v.name) c.block.view_is in
    let begin : c.in_ok-begin.begin.items ≡ prefix b.name = c.in_ok-begin.ensures ∙ ap prefix name in
    let begin_first : c.deref-4.result.now ≡ prefix b.name = c.deref-4.ensures.value ∙ begin in
    let begin_each : c.deref-5.result.now ≡ prefix b.name = c.deref-5.ensures.value ∙ begin in
    let all : c.deref-6.result.now ≡ entries b = c.deref-6.ensures.value ∙ c.in_ok-entries.ensures in
    let begin_last : c.deref-7.result.now ≡ prefix b.name = c.deref-7.ensures.value ∙ begin in
    let list : c.deref-8.result.now ≡ c.args.encodings.now.list = c.deref-8.ensures.value ∙ ap (λ (v : Enumerations). v.list) c.encodings.view_is in
    let first : c.push_first_lines.new.text.items ≡ first_lines b.name (prefix b.name) = c.in_ok-push_first_lines.ensures ∙ (λ i. c.in_ok-text.ensures.items i ++ first_lines (top i) (begin_first i)) in
    let words : c.push_entries.new.text.items ≡ first_lines b.name (prefix b.name) ++ entry_texts (prefix b.name) (entries b) = c.in_ok-push_entries.ensures ∙ (λ i. first i ++ entry_texts (begin_each i) (all i)) in
    c.in_ok-extend_from_slice.ensures.items ∙ ap (λ xs. xs ++ codes "\n#endif\n") (c.in_ok-push_enumerations.ensures ∙ (λ i. words i ++ enumeration_texts b (begin_last i) (list i)))
