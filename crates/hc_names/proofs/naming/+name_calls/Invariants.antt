use Rattle.std.proofs.Common.{◌≡◌, drop, flat_map, List}
use Rattle.hc_names.specs.Naming.{NameRow}
use Rattle.hc_names.specs.Steps.{MarksNamed, NamesTo, names_in, requests}
use Rattle.hc_names.proofs.Calls.{kid_walk}
use Rattle.hc_names.proofs.naming.+name_calls.Given as goal

abbrev pub invariant-kids : goal.invariant-kids
invariant-kids l = record {
  named : (end : List NameRow) → NamesTo l.names (requests (flat_map kid_walk (drop l.kid-index l.kids))) end → NamesTo l.initial.names (requests (flat_map kid_walk l.kids)) end;
  taken : l.used ≡ names_in l.names;
  marked : MarksNamed l.names l.marks.items;
}
