-- What a sink tells that keeps all bytes.
use Rattle.std.specs.Prelude.{Some, length}
use Rattle.rb_edge.specs.Sink.{Told}
use Rattle.v_printer.specs.declared.text_sink.TextSink.{TextSink}

abbrev pub told_of : TextSink → Told
told_of sink = record { bytes = Some sink.bytes.items; number = Some (length sink.bytes.items) }
