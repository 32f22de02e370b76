use Rattle.sh_device_rows.proofs.tests.threads.a_daemon_loads_while_a_driver_maps.Given as goal

abbrev pub ghosts-rounds : goal.ghosts-rounds
ghosts-rounds g a = record {
  domain = a.new.domain.table;
  messages = a.new.messages.table;
  numbers = record { bounce = a.new.domain.bounce; pages = a.new.domain.pages; timeout = a.new.messages.timeout };
}
