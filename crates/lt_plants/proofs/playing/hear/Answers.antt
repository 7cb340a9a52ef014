use Rattle.lt_plants.proofs.playing.hear.Goals as goal

pub returns-in-Thermostat-clause-none : goal.returns-in-Thermostat-clause-none
returns-in-Thermostat-clause-none c = rw c.in-Thermostat.is c.thermostat.ensures.none

pub returns-in-Safe-clause-none : goal.returns-in-Safe-clause-none
returns-in-Safe-clause-none c = rw c.in-Safe.is c.safe.ensures.none
