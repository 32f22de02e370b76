use Rattle.sh_device_rows.proofs.tests.threads.a_session_of_one_driver.Given as goal

abbrev pub ghosts-session : goal.ghosts-session
ghosts-session g a = record {
  domain = a.new.domain.table;
  messages = a.new.messages.table;
  numbers = record { bounce = a.new.domain.bounce; pages = a.new.domain.pages; timeout = a.new.messages.timeout };
}
