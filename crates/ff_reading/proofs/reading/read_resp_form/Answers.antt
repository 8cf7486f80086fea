use Rattle.ff_reading.proofs.reading.read_resp_form.Goals as goal

pub returns-in-Page : goal.returns-in-Page
returns-in-Page c = rw c.in-Page.is c.read_page.ensures

pub returns-in-Script : goal.returns-in-Script
returns-in-Script c = rw c.in-Script.is c.read_script_resp.ensures

pub returns-in-Data : goal.returns-in-Data
returns-in-Data c = rw c.in-Data.is c.read_data.ensures
