-- What fault an opening that failed is.
use Rattle.gui_edge.specs.declared.panel.OpenFault.{OpenFault}
use Rattle.gui_edge.specs.declared.panel.OpenFault.TheVariants as opening
use Rattle.meter.specs.declared.fault.Fault.{Fault}
use Rattle.meter.specs.declared.fault.Fault.TheVariants as fault

abbrev pub opening_fault : OpenFault → Fault
opening_fault opening.Failed = fault.Unopened
opening_fault opening.NoMemory = fault.NoMemory
