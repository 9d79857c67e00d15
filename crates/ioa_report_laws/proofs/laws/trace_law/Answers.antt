use Rattle.ioa_report_laws.proofs.TakenEntries.{signatures_taken}
use Rattle.ioa_report_laws.proofs.Traces.{external_trace, internal_trace, joined_traces, trace_members}
use Rattle.ioa_report_laws.proofs.laws.trace_law.Goals as goal

pub returns : goal.returns
returns c = record {
  joined = joined_traces;
  external = external_trace;
  internal = internal_trace;
  members = trace_members;
  execution = signatures_taken;
}
