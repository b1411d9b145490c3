mod Sheets
