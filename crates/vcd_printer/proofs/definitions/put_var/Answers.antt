use Rattle.std.specs.Fmt.{decimal}
use Rattle.std.proofs.Common.{◌≡◌, [], ◌∷◌, ◌++◌, take, ap, ◌∙◌}
use Rattle.rb_edge.proofs.Flowing.{and_then, stopped, of_bytes}
use Rattle.vcd_syntax.specs.Dump.{end, code, range_words}
use Rattle.vcd_printer.proofs.Lines.{behind, var_text, front}
use Rattle.vcd_printer.proofs.definitions.put_var.Goals as goal

pub returns-in_err-put_all : goal.returns-in_err-put_all
returns-in_err-put_all g c =
    let written = take c.code_digits-len.result c.code_digits-len.new.bytes in
    let w : c.as_bytes-digits.result.now ≡ decimal c.args.width = c.as_bytes-digits.ensures.value ∙ c.format.ensures.text in
    let e : front c.as_bytes-digits.result.now written c.args.name.now ≡ front (decimal c.args.width) (code c.args.number) c.args.name.now
    = ap (λ z. front z written c.args.name.now) w ∙ ap (λ z. front (decimal c.args.width) z c.args.name.now) c.code_digits-len.ensures.code in
    of_bytes _ _ (var_text c.args.number (record { name = c.args.name.now; width = c.args.width }))
    (stopped (behind (range_words c.args.width ++ end ∷ []) ++ 10 ∷ []) c.from_residual.result c.from_residual.ensures.0 (of_bytes _ _ e c.in_err-put_all.ensures))

pub returns : goal.returns
returns g c =
    let written = take c.code_digits-len.result c.code_digits-len.new.bytes in
    let w : c.as_bytes-digits.result.now ≡ decimal c.args.width = c.as_bytes-digits.ensures.value ∙ c.format.ensures.text in
    let e : front c.as_bytes-digits.result.now written c.args.name.now ≡ front (decimal c.args.width) (code c.args.number) c.args.name.now
    = ap (λ z. front z written c.args.name.now) w ∙ ap (λ z. front (decimal c.args.width) z c.args.name.now) c.code_digits-len.ensures.code in
    of_bytes _ _ (var_text c.args.number (record { name = c.args.name.now; width = c.args.width })) (and_then (of_bytes _ _ e c.in_ok-put_all.ensures) c.put_range.ensures)
